use Rattle.std.proofs.Common.{append_assoc}
use Rattle.dasd_extract.proofs.Spelled.{replacement}
use Rattle.dasd_extract.proofs.texts.put_replacement.Goals as goal

pub returns-clause-text : goal.returns-clause-text
returns-clause-text c = rw (c.push-3.ensures.items, c.push-2.ensures.items, c.push.ensures.items, replacement) (simp (append_assoc))
