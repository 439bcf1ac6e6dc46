use Rattle.std.proofs.Common.{rules}
use Rattle.dasd_run.proofs.members.delete_one.Goals as goal

pub returns-clause-deletes : goal.returns-clause-deletes
returns-clause-deletes g c = rw (← c.host.view_is, ← c.as_slice.ensures.value) (search rules)

pub returns-in_err-delete_member-clause-deletes : goal.returns-in_err-delete_member-clause-deletes
returns-in_err-delete_member-clause-deletes g c = rw (← c.host.view_is, ← c.as_slice.ensures.value) (search rules)
