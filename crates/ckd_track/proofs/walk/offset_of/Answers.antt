-- The count area of each record before record i lies within the slot.
use Rattle.std.proofs.Common.{arith}
use Rattle.ckd_track.proofs.Offsets.{bytes_within}
use Rattle.ckd_track.proofs.walk.offset_of.Goals as goal

pub record_size-at-requires : goal.record_size-at-requires
record_size-at-requires c = omega (
  arith,
  bytes_within c.args.slot.now c.loop.counter c.loop.at c.type_inv.slot c.loop.invariant
      (omega (arith, c.loop-test.true, c.requires)),
)
