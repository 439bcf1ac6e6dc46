use Rattle.std.proofs.Common.{codes}
use Rattle.dasd_volumes.proofs.Printing.{then_whole, stopped_before}
use Rattle.dasd_volumes.proofs.objects.list_closed.Goals as goal

pub returns-in-Ok : goal.returns-in-Ok
returns-in-Ok g c = then_whole c.write_whole.result _ _ _ _ (codes "]}\n") c.in-Ok.ensures c.write_whole.ensures

pub returns-in-Err : goal.returns-in-Err
returns-in-Err g c = stopped_before _ _ _ (codes "]}\n") c.in-Err.ensures
