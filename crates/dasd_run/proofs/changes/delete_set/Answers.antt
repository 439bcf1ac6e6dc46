use Rattle.std.proofs.Common.{rules}
use Rattle.dasd_run.proofs.changes.delete_set.Goals as goal

pub returns-clause-deletes : goal.returns-clause-deletes
returns-clause-deletes g c = rw (← c.host.view_is, ← c.as_slice.ensures.value) (search rules)

pub returns-in_err-delete_data_set-clause-deletes : goal.returns-in_err-delete_data_set-clause-deletes
returns-in_err-delete_data_set-clause-deletes g c = rw (← c.host.view_is, ← c.as_slice.ensures.value) (search rules)
