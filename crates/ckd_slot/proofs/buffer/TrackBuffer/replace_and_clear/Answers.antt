use Rattle.std.proofs.Common.{◌≡◌, ◌∙◌, ◌+◌, ◌≤◌, arith, rules}
use Rattle.std.proofs.lemmas.List.{with_items_is}
use Rattle.ckd_track.specs.Track.{track_in}
use Rattle.ckd_track.specs.Changes.{end_offset}
use Rattle.ckd_track.proofs.Places.{end_is}
use Rattle.ckd_slot.proofs.AreaPlaces.{reads}
use Rattle.ckd_slot.proofs.Begun.{zero_later}
use Rattle.ckd_slot.proofs.Writes.{replaces, length-padded}
use Rattle.ckd_slot.proofs.Updates.{updated_buffer}
use Rattle.ckd_slot.proofs.buffer.TrackBuffer.replace_and_clear.Goals as goal

pub write_area-requires : goal.write_area-requires
write_area-requires c =
    let s = c.args.self.now in
    let w = c.args.place in
    let x = rw c.self.view_is at c.self.invariant in
    let u = c.requires.there in
    let k = replaces s (track_in s) u.extent u.area w c.args.bytes.now (reads x c.requires.readable).spells u.is c.requires.first in
    let end : c.end_of-end.result ≡ end_offset (track_in s) = rw c.count.ensures at c.end_of-end.ensures.place ∙ end_is (track_in s) in
    let area : w.start + w.len ≤ c.end_of-end.result = omega (arith, end, k.within, length-padded c.args.bytes.now w.len c.requires.first)
    in
    rw (c.deref_mut.ensures.value ∙ c.self.view_is) (record {
      area = area;
      room = c.end_of-end.ensures.room;
      first = c.requires.first;
      zeros = zero_later s _ _ x.cleared (omega arith) (omega (arith, area, c.end_of-end.ensures.room, x.cleared.within));
    })

-- where the end mark stands
end_there : (c : goal.After-self-3-1) → c.end_of-end.result ≡ end_offset (track_in c.args.self.now)
end_there c = rw c.count.ensures at c.end_of-end.ensures.place ∙ end_is (track_in c.args.self.now)

pub invariant_of-self : goal.invariant_of-self
invariant_of-self c =
    let s = c.args.self.now in
    let x = rw c.self.view_is at c.self.invariant in
    let r = reads x c.requires.readable in
    let u = c.requires.there in
    let k = replaces s (track_in s) u.extent u.area c.args.place c.args.bytes.now r.spells u.is c.requires.first in
    rw (
      with_items_is c.self.inside.slot c.write_area.new.slot (search rules),
      rw (
        c.deref_mut.ensures.value ∙ c.self.view_is,
        end_there c,
      ) at c.write_area.ensures ∙ k.law,
      end_there c,
    ) (updated_buffer x r k)

pub returns-clause-slot : goal.returns-clause-slot
returns-clause-slot c = λ e a u.
    (let s = c.args.self.now in
    let k = replaces s (track_in s) e a c.args.place c.args.bytes.now
    (reads (rw c.self.view_is at c.self.invariant) c.requires.readable).spells u c.requires.first in
    rw (with_items_is c.self.inside.slot c.write_area.new.slot (search rules)) (rw (
      c.deref_mut.ensures.value ∙ c.self.view_is,
      end_there c,
    ) at c.write_area.ensures ∙ k.law))
