use Rattle.std.proofs.Common.{arith}
use Rattle.ckd_slot.proofs.Begun.{zero_later, zeros_behind}
use Rattle.ckd_slot.proofs.buffer.write_area.Goals as goal

pub end_with_zeros-requires-clause-zeros : goal.end_with_zeros-requires-clause-zeros
end_with_zeros-requires-clause-zeros c = zero_later c.args.slot.now _ _ c.requires.zeros (omega arith)
    (omega (arith, c.requires.zeros.within, c.requires.area, c.requires.room, c.requires.first))

pub returns : goal.returns
returns c =
    rw (c.overwrite.ensures, c.end_with_zeros.ensures) (zeros_behind c.args.slot.now c.args.place.start c.args.place.len c.args.bytes.now
    c.args.end c.requires.first c.requires.area c.requires.room)
