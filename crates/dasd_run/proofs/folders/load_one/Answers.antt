use Rattle.std.proofs.Common.{rules}
use Rattle.dasd_run.proofs.folders.load_one.Goals as goal

pub returns-clause-loads : goal.returns-clause-loads
returns-clause-loads g c = rw (← c.host.view_is, ← c.as_slice.ensures.value, ← c.source_of.ensures) (search rules)

pub returns-in_err-load_member-clause-loads : goal.returns-in_err-load_member-clause-loads
returns-in_err-load_member-clause-loads g c = rw (← c.host.view_is, ← c.as_slice.ensures.value, ← c.source_of.ensures) (search rules)
