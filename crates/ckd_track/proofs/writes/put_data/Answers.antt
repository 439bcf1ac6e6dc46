-- Other bytes in the data area of a record.
use Rattle.std.proofs.Common.{◌∙◌, ap, rules}
use Rattle.ckd_track.specs.Track.{track_of, track_in}
use Rattle.ckd_track.proofs.Offsets.{with_record}
use Rattle.ckd_track.proofs.Writing.{data_slot, data_read}
use Rattle.ckd_track.proofs.writes.put_data.Goals as goal

pub returns : goal.returns
returns c =
    let s = c.args.slot.now in
    let spells = with_record s (search rules) c.args.i c.requires.place in
    let slot = rw (← c.data_offset_of-at.ensures.place, ← c.rewrite.ensures) at
    (data_slot s (track_in s) spells c.args.i c.requires.place c.args.body.now c.requires.area) in
    record {
      slot = slot;
      read = ap track_of slot
          ∙ data_read s (track_in s) spells c.args.i c.requires.place c.args.body.now c.requires.area;
    }
