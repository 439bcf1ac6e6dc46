use Rattle.std.proofs.Common.{◌∙◌, ap, sym, length, ◌∷◌}
use Rattle.ckd_track.specs.Track.{slot_of, record_bytes, end_mark}
use Rattle.new_labels.specs.Records.{track_bytes}
use Rattle.new_labels.specs.Tracks.{filled, track_front, first_record}
use Rattle.new_labels.proofs.Filled.{put_behind, bare_spelled}
use Rattle.new_labels.proofs.slots.spell_bare.Goals as goal

pub returns : goal.returns
unfolding slot_of
returns c =
    let track = track_bytes c.args.geometry c.args.track in
    put_behind (length c.args.slot.now) _ _ (track_front track) end_mark _ c.append.ensures.written c.begin-at.ensures.same
    (sym c.begin-at.ensures.next) c.begin-at.ensures.written
    ∙ ap (filled (length c.args.slot.now)) (bare_spelled (0 ∷ track) (record_bytes (first_record track)) end_mark)
