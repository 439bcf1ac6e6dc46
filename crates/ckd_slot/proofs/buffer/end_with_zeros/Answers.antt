use Rattle.std.proofs.Common.{arith}
use Rattle.ckd_slot.proofs.Begun.{zero_later}
use Rattle.ckd_slot.proofs.buffer.end_with_zeros.Goals as goal

pub put_end_mark-requires-clause-zeros : goal.put_end_mark-requires-clause-zeros
put_end_mark-requires-clause-zeros c = zero_later c.args.slot.now _ _ c.requires.zeros (omega arith) (omega (
  arith,
  c.requires.zeros.within,
  c.requires.room,
))
