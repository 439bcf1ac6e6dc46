use Rattle.std.proofs.Common.{[], ◌∷◌, map, append_assoc, arith}
use Rattle.std.specs.List.{range_with_len}
use Rattle.std.proofs.lemmas.List.FromFn.{map-range_with_len_more}
use Rattle.record_tracks.specs.{Records.all_areas, Library.directory_area}
use Rattle.record_tracks.proofs.member_records.push_directory.Goals as goal

pub loop-k-preserved : goal.loop-k-preserved
loop-k-preserved c =
    let area = directory_area c.args.directory.now in
    let before = all_areas c.args.records.now.items in
    let so_far = map area (range_with_len 0 c.loop-k.k) in
    let more = map-range_with_len_more area 0 c.loop-k.k c.loop-k.k (omega arith) in
    cc (c.in_ok-push.ensures, c.directory_block.ensures, c.loop-k.invariant, append_assoc before so_far (area c.loop-k.k ∷ []), more)
