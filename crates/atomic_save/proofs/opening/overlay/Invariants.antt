use Rattle.std.proofs.Common.{◌≡◌, ◌<◌, ◌+◌, ℕ, length, slice_index_or}
use Rattle.atomic_save.specs.Changes.{notes, byte_after}
use Rattle.atomic_save.proofs.opening.overlay.Given as goal

abbrev pub invariant-loop-rest : goal.invariant-loop-rest
invariant-loop-rest l = record {
  long : length l.into ≡ length l.fn.into;
  after : (k : ℕ) → k < length l.fn.into → byte_after (notes l.rest) l.file (l.at + k) (slice_index_or l.into k 0)
      ≡ byte_after (notes l.fn.changes) l.fn.file (l.fn.at + k) (slice_index_or l.fn.into k 0);
}

abbrev pub decreases-loop-rest : goal.decreases-loop-rest
decreases-loop-rest l = length l.rest
