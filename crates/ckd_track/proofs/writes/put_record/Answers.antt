-- A new record, whose areas are cleared before they are written.
use Rattle.std.proofs.Common.{◌≡◌, ◌∙◌, ap, ◌+◌, length, arith, rules}
use Rattle.ckd_track.specs.Track.{track_of, track_in}
use Rattle.ckd_track.specs.Changes.{offset_behind, overwritten}
use Rattle.ckd_track.proofs.Offsets.{are_bytes, whole}
use Rattle.ckd_track.proofs.Rewritten.{length-overwritten}
use Rattle.ckd_track.proofs.Zeros.{cleared_first}
use Rattle.ckd_track.proofs.Writing.{makes, new_room, new_slot, new_read}
use Rattle.ckd_track.proofs.writes.put_record.Goals as goal

pub returns : goal.returns
returns c =
    let s = c.args.slot.now in
    let count = c.args.count in
    let body = c.args.body.now in
    let eight : length count ≡ 8 = search rules in
    let spells = whole s (search rules) c.requires.whole in
    let made = makes count body (are_bytes count (search rules)) (are_bytes body (search rules)) eight c.requires.no_end_mark
    c.requires.areas in
    let at = offset_behind (track_in s) c.args.after in
    let room = new_room s (track_in s) spells c.args.after count body eight made c.requires.room in
    let long = length-overwritten s at count (omega (arith, eight, room)) in
    let slot = rw (← c.place_behind-at.ensures, ← c.format_record.ensures, ← c.overwrite.ensures) at
    (cleared_first (overwritten s at count) (at + 8) body (at + 8 + length body) (omega arith) (omega (arith, long, room))
    ∙ new_slot s (track_in s) spells c.args.after count body eight made c.requires.room) in
    record { slot = slot; read = ap track_of slot ∙ new_read s (track_in s) spells c.args.after count body eight made c.requires.room }
