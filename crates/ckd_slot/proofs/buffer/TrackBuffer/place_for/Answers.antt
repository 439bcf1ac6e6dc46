use Rattle.std.proofs.Common.{◌∙◌, ap, sym, arith, rules}
use Rattle.ckd_track.specs.Track.{track_in, track_of}
use Rattle.ckd_track.proofs.Offsets.{are_bytes, few_records}
use Rattle.ckd_slot.proofs.AreaPlaces.{reads}
use Rattle.ckd_slot.proofs.Writes.{fitting, format_fits, format_place, is_last}
use Rattle.ckd_slot.proofs.buffer.TrackBuffer.place_for.Goals as goal

pub records_up_to-kept-requires : goal.records_up_to-kept-requires
records_up_to-kept-requires c =
    let s = c.args.self.now in
    let x = rw c.self.view_is at c.self.invariant in
    let few = few_records s (track_in s) (reads x c.requires.readable).spells in
    λ k e. (let lt = c.before-2.ensures.there k e in omega (arith, lt, few, x.indexed.size))

pub returns-clause-places : goal.returns-clause-places
returns-clause-places c =
    let s = c.args.self.now in
    let b = c.before-2.result in
    let r = reads (rw c.self.view_is at c.self.invariant) c.requires.readable in
    let seen = ap track_of (sym (c.deref.ensures.value ∙ c.self.view_is)) ∙ c.view_at-view.ensures.track in
    let k = fitting s c.args.model b c.args.after c.args.count c.records_up_to-kept.result r.spells
    (record { bytes = are_bytes c.args.count (search rules); eight = search rules })
    (record { same = c.before-2.ensures.kept; there = c.before-2.ensures.there }) (record {
      seen = c.view_at-view.result;
      read = seen;
      number = c.records_up_to-kept.ensures;
      room = sym c.fits.ensures.fits ∙ c.if-not-fits.false;
    }) c.requires.size in
    record {
      fits = k.1;
      is_last = is_last k.0;
      spelled = format_fits k.0;
      place = rw c.body_length-len.ensures (format_place k.0 c.end_of-at.result c.end_of-at.ensures.place);
    }
