use Rattle.std.proofs.Common.{◌∙◌, ap, length, ◌∷◌, flat_map, map}
use Rattle.std.specs.List.{range_with_len}
use Rattle.ckd_track.specs.Track.{slot_of, record_bytes, end_mark}
use Rattle.new_labels.specs.Labels.{blocks_on}
use Rattle.new_labels.specs.Records.{track_bytes}
use Rattle.new_labels.specs.Tracks.{filled, table_front, first_record, block_record}
use Rattle.new_labels.proofs.Filled.{put_behind, table_spelled}
use Rattle.new_labels.proofs.slots.spell_table.Goals as goal

pub returns : goal.returns
unfolding slot_of
returns c =
    let g = c.args.geometry in
    let l = c.args.label.now in
    let track = track_bytes g c.args.track in
    put_behind (length c.args.slot.now) _ _ (table_front g l c.args.track (blocks_on g.model)) end_mark _ c.append.ensures.written
    c.spell_blocks-at.ensures.same c.spell_blocks-at.ensures.next c.spell_blocks-at.ensures.written
    ∙ ap (filled (length c.args.slot.now)) (table_spelled (0 ∷ track) (record_bytes (first_record track))
    (flat_map record_bytes (map (block_record g l c.args.track) (range_with_len 1 (blocks_on g.model)))) end_mark)
