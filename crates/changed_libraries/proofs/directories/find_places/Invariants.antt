use Rattle.std.proofs.Common.{◌≡◌, length}
use Rattle.dasd_volumes.specs.Volumes.{of_each}
use Rattle.changed_volumes.specs.Changes.{IsSameImage}
use Rattle.member_changes.specs.Places.{places_of_track}
use Rattle.changed_libraries.proofs.directories.find_places.Given as goal

-- the places on the tracks so far; the image stays
abbrev pub invariant-loop-i : goal.invariant-loop-i
invariant-loop-i l = record {
  same : IsSameImage l.fn.image l.image;
  slots : l.image.slots ≡ l.fn.image.slots;
  places : l.places.items ≡ of_each (places_of_track l.extents l.fn.image.geometry l.fn.image.slots) l.i;
  size : length l.slot ≡ l.fn.image.geometry.track_size;
}
