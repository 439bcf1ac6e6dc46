use Rattle.std.proofs.Common.{◌≡◌, ◌++◌, take}
use Rattle.record_tracks.specs.{Records.all_areas, Library.members_areas}
use Rattle.record_tracks.proofs.member_records.push_members.Given as goal

-- the members so far
abbrev pub invariant-loop-member : goal.invariant-loop-member
invariant-loop-member l = all_areas l.records.items ≡ all_areas l.initial.records.items ++ members_areas (take l.member-index l.members)
