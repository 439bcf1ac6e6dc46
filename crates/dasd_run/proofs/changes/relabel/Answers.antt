use Rattle.std.proofs.Common.{rules}
use Rattle.dasd_run.proofs.changes.relabel.Goals as goal

pub returns-clause-relabels : goal.returns-clause-relabels
returns-clause-relabels g c = rw (← c.host.view_is, ← c.as_slice.ensures.value) (search rules)

pub returns-in_err-relabel_volume-clause-relabels : goal.returns-in_err-relabel_volume-clause-relabels
returns-in_err-relabel_volume-clause-relabels g c = rw (← c.host.view_is, ← c.as_slice.ensures.value) (search rules)
