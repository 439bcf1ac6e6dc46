use Rattle.std.proofs.Common.{◌≡◌, ◌≤◌, ◌<◌, ℕ, None, length}
use Rattle.volume_contents.specs.Runs.{number}
use Rattle.changed_volumes.specs.Changes.{IsSameImage}
use Rattle.loaded_sets.specs.Tables.{free_on}
use Rattle.loaded_sets.proofs.tables.find_free.Given as goal

-- the image is as it was, and no track so far has a free block
abbrev pub invariant-loop-track : goal.invariant-loop-track
invariant-loop-track l = record {
  same : IsSameImage l.fn.image l.image;
  kept : l.image.slots ≡ l.fn.image.slots;
  size : length l.slot ≡ l.fn.image.geometry.track_size;
  none : (m : ℕ) → number l.fn.image.geometry l.fn.extent.first ≤ m → m < l.track → free_on l.fn.image.slots m ≡ None;
}
