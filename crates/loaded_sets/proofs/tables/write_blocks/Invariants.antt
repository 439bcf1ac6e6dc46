use Rattle.std.proofs.Common.{◌≡◌, List, ℕ, drop, fold, length}
use Rattle.volume_changes.specs.declared.blocks.BlockChange.{BlockChange}
use Rattle.volume_changes.specs.Blocks.{changed}
use Rattle.changed_volumes.specs.Changes.{IsSameImage}
use Rattle.loaded_sets.specs.Tables.{StaysOutside}
use Rattle.loaded_sets.proofs.tables.write_blocks.Given as goal

-- the slots so far, changed by the changes that are left, are those that were, changed by all; and no other track was written
abbrev pub invariant-loop-change : goal.invariant-loop-change
invariant-loop-change l = let one : List (List ℕ) → BlockChange → List (List ℕ) = λ some c. changed l.fn.image.geometry c some in record {
  same : IsSameImage l.fn.image l.image;
  slots : fold one l.image.slots (drop l.change-index l.changes) ≡ fold one l.fn.image.slots l.changes;
  others : StaysOutside l.fn.image.geometry l.extent l.fn.image.slots l.image.slots;
  size : length l.slot ≡ l.fn.image.geometry.track_size;
}
