use Rattle.std.proofs.Common.{◌≡◌, ◌++◌, map}
use Rattle.std.specs.List.{range_with_len}
use Rattle.record_tracks.specs.{Records.all_areas, Library.directory_area}
use Rattle.record_tracks.proofs.member_records.push_directory.Given as goal

-- the blocks so far
abbrev pub invariant-loop-k : goal.invariant-loop-k
invariant-loop-k l =
    all_areas l.records.items ≡ all_areas l.initial.records.items ++ map (directory_area l.directory) (range_with_len 0 l.k)
