use Rattle.std.proofs.Common.{◌≡◌, ◌≢◌, ◌≤◌, ◌+◌, ◌-◌, ℕ, suc, [], length, drop}
use Rattle.record_tracks.specs.{Entries.all_contents, Entries.all_entries, Directory.left_behind}
use Rattle.record_tracks.proofs.directories.blocks_needed.Given as goal

-- what is left behind the blocks so far, and behind more of them; each of them has something
abbrev pub invariant-loop-next : goal.invariant-loop-next
invariant-loop-next l = record {
  within : l.next ≤ length l.entries + 1;
  few : l.blocks ≤ l.next;
  left : (n : ℕ) → left_behind (all_entries (all_contents l.entries)) (l.blocks + n)
      ≡ left_behind (drop l.next (all_entries (all_contents l.entries))) n;
  fewest : (n : ℕ) → suc n ≡ l.blocks → left_behind (all_entries (all_contents l.entries)) n ≢ [];
}

abbrev pub decreases-loop-next : goal.decreases-loop-next
decreases-loop-next l = length l.entries + 1 - l.next
