use Rattle.std.proofs.Common.{◌≡◌, ◌+◌, ◌-◌, length, arith, rules}
use Rattle.ckd_track.proofs.Rewritten.{length-overwritten}
use Rattle.ckd_track.proofs.Zeros.{zero_over}
use Rattle.ckd_slot.proofs.Begun.{written_last}
use Rattle.ckd_slot.proofs.Writes.{padded_whole}
use Rattle.ckd_slot.proofs.buffer.write_record.Goals as goal

pub put_end_mark-requires-clause-zeros : goal.put_end_mark-requires-clause-zeros
put_end_mark-requires-clause-zeros c =
    let eight : length c.args.count.now ≡ 8 = search rules in
    rw c.overwrite.ensures (zero_over c.args.slot.now (c.args.place.start - 8) c.args.count.now c.args.zeros_from _ c.requires.zeros
    (omega arith) (omega (arith, eight, c.requires.before)) (omega (arith, c.requires.zeros.within, c.requires.room)))

pub returns : goal.returns
returns c =
    let eight : length c.args.count.now ≡ 8 = search rules in
    let w = c.args.place in
    let long = length-overwritten c.args.slot.now (w.start - 8) c.args.count.now (omega (arith, eight, c.requires.before, c.requires.room))
    in
    rw (c.overwrite-2.ensures, c.put_end_mark.ensures, c.overwrite.ensures, padded_whole c.args.bytes.now w.len (search rules))
    (written_last _ w.start c.args.bytes.now (w.start + w.len) (omega (arith, c.requires.first)) (omega (arith, long, c.requires.room)))
