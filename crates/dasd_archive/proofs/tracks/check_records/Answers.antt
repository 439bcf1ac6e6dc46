use Rattle.dasd_archive.proofs.Reported.{none_of, one_more_of}
use Rattle.dasd_archive.proofs.tracks.check_records.Goals as goal

pub loop-i-init : goal.loop-i-init
loop-i-init g c = none_of _ _ _ _ _

pub loop-i-preserved : goal.loop-i-preserved
loop-i-preserved g c = one_more_of _ _ _ c.loop-i.i _ _ _ _ _ _ c.loop-i.invariant c.in_ok-check_record.ensures
