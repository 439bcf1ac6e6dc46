use Rattle.std.proofs.Common.{◌∙◌, rules}
use Rattle.dasd_run.proofs.whole.check_contents.Goals as goal

pub returns-clause-checks : goal.returns-clause-checks
returns-clause-checks g c =
    rw (← c.host.view_is, ← c.as_slice-paths.ensures.value)
    (rw (← (c.as_str.ensures.value ∙ c.in_ok-path.ensures.text), ← c.path_if-json.ensures) (search rules))
