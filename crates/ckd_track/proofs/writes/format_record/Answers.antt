-- A count area and the zeros behind it leave the zeros behind the end mark.
use Rattle.std.proofs.Common.{ℕ, ◌+◌, ◌≤◌, ◌≡◌, max, length, replicate, arith, rules}
use Rattle.std.proofs.lemmas.List.{length-replicate}
use Rattle.ckd_track.proofs.Zeros.{zero_over}
use Rattle.ckd_track.specs.Changes.{overwritten}
use Rattle.ckd_track.proofs.Rewritten.{length-overwritten}
use Rattle.ckd_track.proofs.writes.format_record.Goals as goal

pub put_end_mark-requires-clause-zeros : goal.put_end_mark-requires-clause-zeros
put_end_mark-requires-clause-zeros c =
    let s = c.args.slot.now in
    let at = c.args.at in
    let z = c.args.zeros_from in
    let eight : length c.args.count.now ≡ 8 = search rules in
    let k = max z (at + 8 + c.args.body + 8) in
    let many = length-replicate {A = ℕ} c.args.body 0 in
    let long = length-overwritten s at c.args.count.now (omega (arith, eight, c.requires.room)) in
    let last : k ≤ length s = omega (arith, c.requires.zeros.within, c.requires.room) in
    let first = zero_over s at c.args.count.now z k c.requires.zeros (omega arith) (omega (arith, eight)) last in
    rw (c.clear.ensures, c.overwrite.ensures) (zero_over (overwritten s at c.args.count.now) (at + 8) (replicate c.args.body 0) k k first
    (omega arith) (omega (arith, many)) (omega (arith, long, last)))
