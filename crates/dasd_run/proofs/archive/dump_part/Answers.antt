use Rattle.std.proofs.Common.{◌∙◌, rules}
use Rattle.dasd_run.proofs.archive.dump_part.Goals as goal

pub returns-clause-dumps : goal.returns-clause-dumps
returns-clause-dumps g c =
    rw (← c.host.view_is, ← c.as_slice-paths.ensures.value, ← (c.as_str.ensures.value ∙ c.in_ok-path.ensures.text), ← c.style.ensures)
    (search rules)
