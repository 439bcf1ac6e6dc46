use Rattle.std.proofs.Common.{rules}
use Rattle.dasd_run.proofs.changes.rename_set.Goals as goal

pub returns-clause-renames : goal.returns-clause-renames
returns-clause-renames g c = rw (← c.host.view_is, ← c.as_slice.ensures.value) (search rules)

pub returns-in_err-rename_data_set-clause-renames : goal.returns-in_err-rename_data_set-clause-renames
returns-in_err-rename_data_set-clause-renames g c = rw (← c.host.view_is, ← c.as_slice.ensures.value) (search rules)
