use Rattle.std.proofs.Common.{[]}
use Rattle.std.proofs.KnownBytes.{Appends-nil}
use Rattle.dasd_volumes.proofs.Appended.{begun, one_more}
use Rattle.dasd_archive.proofs.rows.write_rows.Goals as goal

pub loop-i-init : goal.loop-i-init
loop-i-init g c = begun _ _ [] _ (Appends-nil _)

pub loop-i-preserved : goal.loop-i-preserved
loop-i-preserved g c = one_more _ _ _ [] _ c.loop-i.i c.loop-i.invariant c.in_ok-write_row.ensures
