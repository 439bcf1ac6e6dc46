use Rattle.std.proofs.Common.{◌≡◌, ◌≤◌, ◌+◌, ◌-◌, drop, length}
use Rattle.record_tracks.specs.{Records.all_areas, Tracks.fitting_on, Tracks.left_behind}
use Rattle.record_tracks.proofs.tracks.place_of.Given as goal

-- this track begins with this record, and the next one with that
abbrev pub invariant-loop-behind : goal.invariant-loop-behind
invariant-loop-behind l = record {
  few : l.track ≤ l.next;
  passed : l.next ≤ l.number;
  left : drop l.next (all_areas l.blocks) ≡ left_behind l.model (all_areas l.blocks) l.track;
  behind : l.behind ≡ l.next + fitting_on l.model (drop l.next (all_areas l.blocks));
  within : l.behind ≤ length l.blocks;
}

abbrev pub decreases-loop-behind : goal.decreases-loop-behind
decreases-loop-behind l = length l.blocks - l.next
