use Rattle.std.proofs.Common.{◌∙◌, ◌+◌, ap, sym, length, length-append, arith}
use Rattle.ckd_track.specs.Track.{record_bytes}
use Rattle.new_labels.specs.Tracks.{filled, table_front, block_record}
use Rattle.new_labels.proofs.Filled.{put_behind, one_block}
use Rattle.new_labels.proofs.slots.spell_blocks.Goals as goal

pub append_block-at-requires-clause-room : goal.append_block-at-requires-clause-room
append_block-at-requires-clause-room c =
    let place = c.loop-number.invariant.place in
    let size = c.loop-number.invariant.size in
    let room = c.requires.room in
    let most = c.blocks_on-number-end.ensures in
    omega arith

pub loop-number-preserved : goal.loop-number-preserved
loop-number-preserved c =
    let g = c.args.geometry in
    let l = c.args.label.now in
    let k = c.loop-number.number in
    let front = table_front g l c.args.track k in
    let block = record_bytes (block_record g l c.args.track (k + 1)) in
    let place = c.loop-number.invariant.place in
    let long = c.loop-number.invariant.front in
    let next = c.append_block-at.ensures.next in
    let size = c.append_block-at.ensures.size in
    record {
      place = omega arith;
      size = c.append_block-at.ensures.same ∙ c.loop-number.invariant.size;
      front = ap length (one_block g l c.args.track k) ∙ length-append front block ∙ omega arith;
      written = put_behind (length c.args.slot.now) _ _ front block _ c.append_block-at.ensures.written c.loop-number.invariant.size
          c.loop-number.invariant.front c.loop-number.invariant.written
          ∙ ap (filled (length c.args.slot.now)) (sym (one_block g l c.args.track k));
    }
