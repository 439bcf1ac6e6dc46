use Rattle.std.proofs.Common.{◌+◌, arith, None}
use Rattle.dasd_extract.proofs.Endings.{begun, one_more, stays}
use Rattle.dasd_extract.proofs.tracks.write_from.Goals as goal

pub loop-k-init : goal.loop-k-init
loop-k-init g c = begun _ _

pub returns-in-Ok-Some : goal.returns-in-Ok-Some
returns-in-Ok-Some g c =
    stays _ (c.loop-k.k + 1) _ _ _ _ (omega arith) (one_more _ c.loop-k.k _ _ _ _ c.loop-k.invariant
    (rw (c.in-Ok-Some.field-0-is) at c.in-Ok-Some.ensures))

pub loop-k-preserved : goal.loop-k-preserved
loop-k-preserved g c = one_more _ c.loop-k.k _ _ _ None c.loop-k.invariant (rw (c.in-Ok-None.field-0-is) at c.in-Ok-None.ensures)
