use Rattle.std.proofs.Common.{◌∙◌, codes}
use Rattle.dasd_run.proofs.Paths.{joined_texts}
use Rattle.dasd_run.proofs.printed_paths.joined.Goals as goal

pub returns-clause-text : goal.returns-clause-text
returns-clause-text c = c.in_ok-join.ensures.ok ∙ joined_texts (λ path. path.now) (codes "+") c.args.paths.now
