use Rattle.std.proofs.Common.{◌≡◌, ◌-◌, length, arith, rules}
use Rattle.ckd_track.proofs.Zeros.{zero_over}
use Rattle.ckd_slot.proofs.buffer.clear_and_write.Goals as goal

pub write_area-requires-clause-zeros : goal.write_area-requires-clause-zeros
write_area-requires-clause-zeros c =
    let eight : length c.args.count.now ≡ 8 = search rules in
    rw c.overwrite.ensures
    (zero_over c.args.slot.now (c.args.place.start - 8) c.args.count.now c.args.zeros_from _ c.requires.zeros (omega arith)
    (omega (arith, eight, c.requires.before)) (omega (arith, c.requires.zeros.within, c.requires.room)))
