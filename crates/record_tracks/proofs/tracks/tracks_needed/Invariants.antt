use Rattle.std.proofs.Common.{◌≡◌, ◌≢◌, ◌≤◌, ◌-◌, ℕ, suc, [], drop, length}
use Rattle.record_tracks.specs.{Records.all_areas, Tracks.left_behind}
use Rattle.record_tracks.proofs.tracks.tracks_needed.Given as goal

-- what is left behind the tracks so far; each of them has something
abbrev pub invariant-loop-next : goal.invariant-loop-next
invariant-loop-next l = record {
  within : l.next ≤ length l.blocks;
  few : l.tracks ≤ l.next;
  left : drop l.next (all_areas l.blocks) ≡ left_behind l.model (all_areas l.blocks) l.tracks;
  fewest : (n : ℕ) → suc n ≡ l.tracks → left_behind l.model (all_areas l.blocks) n ≢ [];
}

abbrev pub decreases-loop-next : goal.decreases-loop-next
decreases-loop-next l = length l.blocks - l.next
