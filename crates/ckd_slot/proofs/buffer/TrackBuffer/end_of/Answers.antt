use Rattle.std.proofs.Common.{◌-◌, ◌∙◌, arith}
use Rattle.ckd_track.specs.Track.{track_in}
use Rattle.ckd_track.proofs.Offsets.{few_records}
use Rattle.ckd_slot.proofs.AreaPlaces.{reads, room_there}
use Rattle.ckd_slot.proofs.Writes.{ends_there}
use Rattle.ckd_slot.proofs.buffer.TrackBuffer.end_of.Goals as goal

pub returns-then-records-eq0 : goal.returns-then-records-eq0
returns-then-records-eq0 c =
    let r = reads (rw c.self.view_is at c.self.invariant) c.requires.readable in
    rw c.if-records-eq0.true (record {
      place = omega (arith, r.spells.home_address);
      room =
          omega (arith, few_records c.args.self.now (track_in c.args.self.now) r.spells);
    })

pub record_window-requires-clause-room : goal.record_window-requires-clause-room
record_window-requires-clause-room c =
    let r = reads (rw c.self.view_is at c.self.invariant) c.requires.readable in
    rw (c.deref.ensures.value ∙ c.self.view_is) (room_there (c.args.records - 1) c.in-Some.at r (rw c.in-Some.is at c.offset_of.ensures))

pub overflow_add-result : goal.overflow_add-result
overflow_add-result c =
    let x = rw c.self.view_is at c.self.invariant in
    let e = ends_there c.args.records c.in-Some.at (reads x c.requires.readable) (omega arith) (rw c.in-Some.is at c.offset_of.ensures) in
    rw (c.record_window.ensures, c.deref.ensures.value ∙ c.self.view_is) (omega (arith, e.room, x.indexed.size))

pub returns-in-Some : goal.returns-in-Some
returns-in-Some c =
    let r = reads (rw c.self.view_is at c.self.invariant) c.requires.readable in
    let e = ends_there c.args.records c.in-Some.at r (omega arith) (rw c.in-Some.is at c.offset_of.ensures) in
    rw (c.record_window.ensures, c.deref.ensures.value ∙ c.self.view_is) (record { place = e.place; room = e.room })
