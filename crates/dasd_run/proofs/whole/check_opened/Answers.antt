use Rattle.std.proofs.Common.{ap, rules}
use Rattle.counted_io.specs.Streams.{seen_by}
use Rattle.dasd_run.proofs.whole.check_opened.Goals as goal

pub returns : goal.returns
returns g c = rw c.worse.ensures (search rules)

pub returns-in_err-is_wrong : goal.returns-in_err-is_wrong
returns-in_err-is_wrong g c = search (rules, ap (seen_by g.W.Write.contents), c.in_err-is_wrong.ensures.none)
