use Rattle.dasd_volumes.proofs.Printing.{then_whole, stopped_before}
use Rattle.dasd_volumes.proofs.objects.list_track.Goals as goal

pub returns-in-Ok : goal.returns-in-Ok
returns-in-Ok g c = then_whole c.list_closed.result _ _ _ _ _ c.in-Ok.ensures c.list_closed.ensures

pub returns-in-Err : goal.returns-in-Err
returns-in-Err g c = stopped_before _ _ _ _ c.in-Err.ensures
