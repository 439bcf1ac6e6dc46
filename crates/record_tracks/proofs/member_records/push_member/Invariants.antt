use Rattle.std.proofs.Common.{◌≡◌, ◌++◌, take}
use Rattle.record_tracks.specs.Records.{all_areas}
use Rattle.record_tracks.proofs.member_records.push_member.Given as goal

-- the blocks so far
abbrev pub invariant-loop-block : goal.invariant-loop-block
invariant-loop-block l = all_areas l.records.items ≡ all_areas l.initial.records.items ++ all_areas (take l.block-index l.block-items)
