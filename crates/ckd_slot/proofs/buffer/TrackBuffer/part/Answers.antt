use Rattle.std.proofs.Common.{◌∙◌, sym, refl, subst, arith}
use Rattle.ckd_position.specs.declared.areas.Area.{Area}
use Rattle.ckd_slot.specs.Buffer.{HasBytes}
use Rattle.ckd_track.specs.Track.{track_of}
use Rattle.ckd_slot.proofs.Writes.{place_there}
use Rattle.ckd_slot.proofs.AreaPlaces.{reads, home_window, record_window, no_window, room_there, no_data_there, no_data_nowhere}
use Rattle.ckd_slot.proofs.buffer.TrackBuffer.part.Goals as goal

pub record_part-requires-clause-room : goal.record_part-requires-clause-room
record_part-requires-clause-room c =
    let r = reads (rw c.self.view_is at c.self.invariant) c.requires.readable in
    rw (c.deref.ensures.value ∙ c.self.view_is) (room_there c.in-Of.i c.in-Some.at r (rw c.in-Some.is at c.offset_of.ensures))

pub returns-in-HomeAddress : goal.returns-in-HomeAddress
returns-in-HomeAddress c =
    let r = reads (rw c.self.view_is at c.self.invariant) c.requires.readable in
    rw (c.in-HomeAddress.is, c.home_address_window.ensures) (record { lies = home_window c.args.extent r; place = tt; no_data = refl })

pub returns-in-Some : goal.returns-in-Some
returns-in-Some c =
    let r = reads (rw c.self.view_is at c.self.invariant) c.requires.readable in
    let there = rw c.in-Some.is at c.offset_of.ensures in
    rw (c.in-Of.is, c.record_part.ensures.place, c.record_part.ensures.no_data, c.deref.ensures.value ∙ c.self.view_is) (record {
      lies = record_window c.args.extent c.in-Of.field-0 c.in-Of.i c.in-Some.at r there;
      place = λ _. place_there c.args.extent c.in-Of.i c.in-Some.at r there;
      no_data = rw (no_data_there c.in-Of.i c.in-Some.at r there) refl;
    })

pub returns-in-None : goal.returns-in-None
returns-in-None c =
    let there = rw c.in-None.is at c.offset_of.ensures in
    let P = λ (a : Area). HasBytes c.args.extent (track_of c.args.self.now) a in
    rw c.in-Of.is (record {
      lies = no_window c.args.self.now c.args.extent c.in-Of.field-0 c.in-Of.i there (subst P c.in-Of.is c.requires.on_track);
      place = λ lt. absurd (omega (arith, there, lt));
      no_data = sym (no_data_nowhere c.args.self.now c.in-Of.i there);
    })
