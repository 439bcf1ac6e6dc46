use Rattle.std.proofs.Common.{◌≡◌, ◌∙◌, ◌+◌, ◌-◌, max, Some, false, true, set, refl, sym, length, arith, rules}
use Rattle.std.proofs.lemmas.List.{with_items_is}
use Rattle.ckd_track.specs.Track.{track_in, track_of, slot_of, body_length}
use Rattle.ckd_track.proofs.Offsets.{are_bytes}
use Rattle.ckd_track.proofs.Slots.{length-slot_of}
use Rattle.ckd_track.proofs.Zeros.{new_zeros}
use Rattle.ckd_slot.specs.Buffer.{end_of_records, IsBuffer, made_on}
use Rattle.ckd_slot.proofs.Writes.{made_by, format_room, format_slot, format_fits, format_indexed, format_keeps, written_slot}
use Rattle.ckd_slot.proofs.Updates.{put_buffer}
use Rattle.ckd_slot.proofs.buffer.TrackBuffer.format.Goals as goal

pub overflow_sub-place : goal.overflow_sub-place
overflow_sub-place c =
    let m = made_by c.args.number c.args.count c.args.place (rw c.self.view_is at c.self.invariant).indexed c.requires.readable
    (record { bytes = are_bytes c.args.count (search rules); eight = search rules }) c.requires.can in
    omega (arith, m.start)

pub overflow_cast-place : goal.overflow_cast-place
overflow_cast-place c =
    let m = made_by c.args.number c.args.count c.args.place (rw c.self.view_is at c.self.invariant).indexed c.requires.readable
    (record { bytes = are_bytes c.args.count (search rules); eight = search rules }) c.requires.can in
    omega (arith, m.room, m.size)

pub index_mut-requires : goal.index_mut-requires
index_mut-requires c =
    let x = rw c.self.view_is at c.self.invariant in
    let m = made_by c.args.number c.args.count c.args.place x.indexed c.requires.readable
    (record { bytes = are_bytes c.args.count (search rules); eight = search rules }) c.requires.can in
    omega (arith, m.few, x.indexed.room)

pub overflow_add-self : goal.overflow_add-self
overflow_add-self c =
    let m = made_by c.args.number c.args.count c.args.place (rw c.self.view_is at c.self.invariant).indexed c.requires.readable
    (record { bytes = are_bytes c.args.count (search rules); eight = search rules }) c.requires.can in
    omega (arith, m.few, m.size)

pub overflow_add-self-2 : goal.overflow_add-self-2
overflow_add-self-2 c =
    let m = made_by c.args.number c.args.count c.args.place (rw c.self.view_is at c.self.invariant).indexed c.requires.readable
    (record { bytes = are_bytes c.args.count (search rules); eight = search rules }) c.requires.can in
    omega (arith, m.room, m.size)

pub overflow_add-self-3 : goal.overflow_add-self-3
overflow_add-self-3 c =
    let m = made_by c.args.number c.args.count c.args.place (rw c.self.view_is at c.self.invariant).indexed c.requires.readable
    (record { bytes = are_bytes c.args.count (search rules); eight = search rules }) c.requires.can in
    omega (arith, m.room, m.size)

pub write_record-requires-clause-before : goal.write_record-requires-clause-before
write_record-requires-clause-before c =
    let m = made_by c.args.number c.args.count c.args.place (rw c.self.view_is at c.self.invariant).indexed c.requires.readable
    (record { bytes = are_bytes c.args.count (search rules); eight = search rules }) c.requires.can in
    omega (arith, m.start)

pub write_record-requires-clause-room : goal.write_record-requires-clause-room
write_record-requires-clause-room c =
    let m = made_by c.args.number c.args.count c.args.place (rw c.self.view_is at c.self.invariant).indexed c.requires.readable
    (record { bytes = are_bytes c.args.count (search rules); eight = search rules }) c.requires.can in
    rw (c.deref_mut.ensures.value ∙ c.self.view_is) m.room

pub invariant_of-self : goal.invariant_of-self
invariant_of-self c =
    let s = c.args.self.now in
    let x = rw c.self.view_is at c.self.invariant in
    let m = made_by c.args.number c.args.count c.args.place x.indexed c.requires.readable
    (record { bytes = are_bytes c.args.count (search rules); eight = search rules }) c.requires.can in
    let k = m.fitting in
    let i = c.self.inside in
    let made = slot_of (length s) (made_on (track_of s) c.args.number c.args.count) in
    let at = end_of_records (track_in s) c.args.number in
    let z = at + 8 + body_length c.args.count + 8 in
    let begun = rw (c.deref_mut.ensures.value ∙ c.self.view_is) at c.write_record.ensures
    ∙ written_slot k c.args.place c.args.bytes.now m.place c.requires.can.room in
    let behind : c.args.place.start - 8 ≡ at = omega (arith, m.start) in
    let last : c.args.place.start + c.args.place.len + 8 ≡ z = omega (arith, m.start, m.len) in
    let room = format_room k in
    let base : IsBuffer made (set i.offsets.items c.args.number at) (Some (c.args.number + 1)) z c.keep.new.self false = record {
      indexed = format_indexed k i.offsets.items i.records at x.indexed c.requires.readable refl;
      cleared = new_zeros s at c.args.count (body_length c.args.count) made k.eight room (sym (format_slot k));
      charges = c.keep.ensures.kept (track_in s).records (track_in made).records (format_keeps k) x.charges;
      as_spelled = λ e. absurd (let no : false ≡ true = e in cc);
    } in
    let long = length-slot_of (length s) (made_on (track_of s) c.args.number c.args.count) (format_fits k).room in
    let most : max z (c.args.place.start + length c.args.bytes.now) ≡ z = omega (arith, last, c.requires.can.room) in
    rw (with_items_is i.slot c.write_record.new.slot (search rules), begun, behind, last)
    (rw most at (put_buffer c.args.place.start c.args.bytes.now base (omega (arith, last, long, room, c.requires.can.room))
    c.requires.can.begins))

pub returns-clause-slot : goal.returns-clause-slot
returns-clause-slot c =
    let m = made_by c.args.number c.args.count c.args.place (rw c.self.view_is at c.self.invariant).indexed c.requires.readable
    (record { bytes = are_bytes c.args.count (search rules); eight = search rules }) c.requires.can in
    rw (with_items_is c.self.inside.slot c.write_record.new.slot (search rules)) (rw (c.deref_mut.ensures.value
    ∙ c.self.view_is) at c.write_record.ensures ∙ written_slot m.fitting c.args.place c.args.bytes.now m.place c.requires.can.room)
