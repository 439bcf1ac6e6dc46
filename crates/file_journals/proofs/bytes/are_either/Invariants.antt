use Rattle.std.proofs.Common.{◌<◌, ℕ, slice_index_or}
use Rattle.file_journals.specs.Bytes.{IsEither}
use Rattle.file_journals.proofs.bytes.are_either.Given as goal

-- those before this place are either
abbrev pub invariant-loop-i : goal.invariant-loop-i
invariant-loop-i l = (k : ℕ) → k < l.i → IsEither (slice_index_or l.saved k 0) (slice_index_or l.differing k 0) (slice_index_or l.held k 0)
