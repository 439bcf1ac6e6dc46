use Rattle.std.proofs.Common.{◌-◌, ℕ, ◌≡◌, ◌<◌, ◌≤◌, ◌/◌, true, slice_index}
use Rattle.s360_words.specs.Storage.{admits}
use Rattle.s360_storage.proofs.lent.reach.Given as goal

-- each byte from the start up to here, within the end, is in a block that may be stored into
abbrev pub invariant-loop-reach : goal.invariant-loop-reach
invariant-loop-reach l =
    (l.start ≤ l.reach)
    × ((i : ℕ) → l.start ≤ i → i < l.reach → i < l.end → admits (slice_index l.keys (i / 2048)) l.key ≡ true)

abbrev pub decreases-loop-reach : goal.decreases-loop-reach
decreases-loop-reach l = l.end - l.reach
