use Rattle.std.proofs.Common.{◌≡◌, map, take}
use Rattle.record_tracks.specs.Records.{all_areas}
use Rattle.record_tracks.specs.Library.{member_areas}
use Rattle.loaded_sets.proofs.members.new_members.Given as goal

-- the members so far
abbrev pub invariant-loop-records : goal.invariant-loop-records
invariant-loop-records l = map member_areas l.members.items ≡ map (λ r. all_areas r.items) (take l.records-index l.all)
