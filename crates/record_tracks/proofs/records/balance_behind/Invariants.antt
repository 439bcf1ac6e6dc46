use Rattle.std.proofs.Common.{◌≡◌, ◌≤◌, take}
use Rattle.record_tracks.specs.Records.{all_areas, balance_behind}
use Rattle.record_tracks.proofs.records.balance_behind.Given as goal

-- what the records so far leave
abbrev pub invariant-loop-block : goal.invariant-loop-block
invariant-loop-block l = record { few : l.left ≤ 7294; left : l.left ≡ balance_behind l.model (take l.block-index (all_areas l.records)) }
