use Rattle.std.proofs.Common.{◌≡◌, ◌<◌, ℕ, slice_get}
use Rattle.atomic_save.specs.Saves.{ids_of}
use Rattle.atomic_save.proofs.saving.first_other.Given as goal

abbrev pub invariant-loop-place : goal.invariant-loop-place
invariant-loop-place l = (k : ℕ) → k < l.place → slice_get (ids_of l.named) k ≡ slice_get l.files k
