use Rattle.std.proofs.Common.{◌≡◌, length}
use Rattle.changed_volumes.specs.Changes.{IsSameImage}
use Rattle.loaded_sets.specs.Space.{marks_in}
use Rattle.loaded_sets.proofs.space.marks_in.Given as goal

-- the image is as it was, and the tracks so far have their marks
abbrev pub invariant-loop-track : goal.invariant-loop-track
invariant-loop-track l = record {
  same : IsSameImage l.fn.image l.image;
  kept : l.image.slots ≡ l.fn.image.slots;
  size : length l.slot ≡ l.fn.image.geometry.track_size;
  marks : l.all.items ≡ marks_in l.marks l.fn.image.slots l.track;
  all : length l.all.items ≡ l.track;
}
