-- A new record stands behind the home address, or where the record before it ends.
use Rattle.std.proofs.Common.{arith}
use Rattle.std.proofs.lemmas.List.{take_rest}
use Rattle.ckd_track.specs.Track.{track_in}
use Rattle.ckd_track.proofs.Offsets.{whole, parts_in}
use Rattle.ckd_track.proofs.Writing.{first_place, end_at-record}
use Rattle.ckd_track.proofs.writes.place_behind.Goals as goal

pub returns-in-None : goal.returns-in-None
returns-in-None c =
    let s = c.args.slot.now in
    rw c.in-None.is (first_place s (track_in s) (whole s c.type_inv.slot c.requires.whole))

pub returns-in-Some : goal.returns-in-Some
returns-in-Some c =
    let s = c.args.slot.now in
    let i = c.in-Some.i in
    let there = c.requires.place i c.in-Some.is in
    let parts = parts_in s i c.record_place-at.result c.type_inv.slot c.record_place-at.ensures.place there in
    let key = rw (take_rest s c.record_place-at.result) at c.key_length.ensures in
    let body = rw (take_rest s c.record_place-at.result) at c.data_length.ensures in
    rw c.in-Some.is (omega (
      arith,
      c.record_place-at.ensures.place,
      key,
      body,
      parts.key_size,
      parts.data_size,
      end_at-record s (track_in s) (whole s c.type_inv.slot c.requires.whole) i there,
    ))
