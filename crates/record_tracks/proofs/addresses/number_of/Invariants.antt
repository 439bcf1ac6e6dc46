use Rattle.std.proofs.Common.{◌≡◌, ◌+◌, length, drop}
use Rattle.record_tracks.specs.Library.{members_areas}
use Rattle.record_tracks.proofs.addresses.number_of.Given as goal

-- those from member k on are not taken away yet
abbrev pub invariant-loop-k : goal.invariant-loop-k
invariant-loop-k l = l.first + length (members_areas (drop l.member l.members)) ≡ l.records + length (members_areas (drop l.k l.members))
