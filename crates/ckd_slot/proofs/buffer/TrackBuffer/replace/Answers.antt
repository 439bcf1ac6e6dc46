use Rattle.std.proofs.Common.{◌∙◌, length, arith, rules}
use Rattle.std.proofs.lemmas.List.{with_items_is}
use Rattle.ckd_track.specs.Track.{track_in}
use Rattle.ckd_track.proofs.Places.{place-le, end_is}
use Rattle.ckd_slot.proofs.AreaPlaces.{reads}
use Rattle.ckd_slot.proofs.Writes.{replaces}
use Rattle.ckd_slot.proofs.Updates.{updated_buffer, exact_update, whole_update}
use Rattle.ckd_slot.proofs.buffer.TrackBuffer.replace.Goals as goal

pub overwrite-requires : goal.overwrite-requires
overwrite-requires c =
    let s = c.args.self.now in
    let r = reads (rw c.self.view_is at c.self.invariant) c.requires.readable in
    let u = c.requires.there in
    let k = whole_update s (track_in s) u.extent u.area c.args.place c.args.bytes.now r.spells u.is c.if-bytes-place.true in
    rw (c.deref_mut.ensures.value ∙ c.self.view_is)
    (omega (arith, k.within, place-le s (track_in s) r.spells (length (track_in s).records), end_is (track_in s)))

pub invariant_of-self : goal.invariant_of-self
invariant_of-self c =
    let s = c.args.self.now in
    let x = rw c.self.view_is at c.self.invariant in
    let r = reads x c.requires.readable in
    let u = c.requires.there in
    let k = whole_update s (track_in s) u.extent u.area c.args.place c.args.bytes.now r.spells u.is c.if-bytes-place.true in
    let exact = x.as_spelled c.if-self.true in
    let new = rw (c.deref_mut.ensures.value ∙ c.self.view_is) at c.overwrite.ensures ∙ exact_update exact.whole r k in
    rw (with_items_is c.self.inside.slot c.overwrite.new.slot (search rules), new, exact.zeros, c.if-self.true) (updated_buffer x r k)

pub returns-then-bytes-place-clause-slot : goal.returns-then-bytes-place-clause-slot
returns-then-bytes-place-clause-slot c = λ e a u.
    (let s = c.args.self.now in
    let x = rw c.self.view_is at c.self.invariant in
    let r = reads x c.requires.readable in
    let k = whole_update s (track_in s) e a c.args.place c.args.bytes.now r.spells u c.if-bytes-place.true in
    rw (with_items_is c.self.inside.slot c.overwrite.new.slot (search rules)) (rw (c.deref_mut.ensures.value
    ∙ c.self.view_is) at c.overwrite.ensures ∙ exact_update (x.as_spelled c.if-self.true).whole r k))

pub returns-then-bytes-place-clause-fits : goal.returns-then-bytes-place-clause-fits
returns-then-bytes-place-clause-fits c = λ e a u.
    (let s = c.args.self.now in
    (replaces s (track_in s) e a c.args.place c.args.bytes.now (reads (rw c.self.view_is at c.self.invariant) c.requires.readable).spells u
    c.requires.first).fits)

pub returns-clause-fits : goal.returns-clause-fits
returns-clause-fits c = λ e a u.
    (let s = c.args.self.now in
    (replaces s (track_in s) e a c.args.place c.args.bytes.now (reads (rw c.self.view_is at c.self.invariant) c.requires.readable).spells u
    c.requires.first).fits)
