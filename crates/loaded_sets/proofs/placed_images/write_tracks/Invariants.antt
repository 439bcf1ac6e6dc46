use Rattle.std.proofs.Common.{◌≡◌, ◌≤◌, length, drop}
use Rattle.record_tracks.specs.Records.{all_areas}
use Rattle.record_tracks.specs.Tracks.{left_behind}
use Rattle.changed_volumes.specs.Changes.{IsSameImage}
use Rattle.loaded_sets.specs.Placed.{HasAreas}
use Rattle.loaded_sets.proofs.placed_images.write_tracks.Given as goal

-- the tracks so far have what goes on them, and what is left is left behind these
abbrev pub invariant-loop-i : goal.invariant-loop-i
invariant-loop-i l = let all = all_areas l.records in record {
  same : IsSameImage l.fn.image l.image;
  size : length l.slot ≡ l.fn.image.geometry.track_size;
  next : l.next ≤ length l.records;
  left : drop l.next all ≡ left_behind l.fn.image.geometry.model all l.i;
  holds : HasAreas l.fn.image.geometry all l.run.first l.i l.fn.image.slots l.image.slots;
}
