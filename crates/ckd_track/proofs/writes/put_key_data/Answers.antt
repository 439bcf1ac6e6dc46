-- Other bytes in the key area and the data area of a record.
use Rattle.std.proofs.Common.{◌∙◌, ap, rules}
use Rattle.ckd_track.specs.Track.{track_of, track_in}
use Rattle.ckd_track.proofs.Offsets.{with_record}
use Rattle.ckd_track.proofs.Writing.{key_data_slot, key_data_read}
use Rattle.ckd_track.proofs.writes.put_key_data.Goals as goal

pub returns : goal.returns
returns c =
    let s = c.args.slot.now in
    let spells = with_record s (search rules) c.args.i c.requires.place in
    let slot = rw (← c.record_place-at.ensures.place, ← c.rewrite.ensures) at (key_data_slot s (track_in s) spells c.args.i c.requires.place
    c.args.body.now c.requires.areas) in
    record {
      slot = slot;
      read = ap track_of slot ∙ key_data_read s (track_in s) spells c.args.i c.requires.place c.args.body.now
          c.requires.areas;
    }
