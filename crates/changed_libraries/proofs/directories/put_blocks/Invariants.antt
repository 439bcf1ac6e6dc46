use Rattle.std.proofs.Common.{◌≡◌, drop, length}
use Rattle.changed_volumes.specs.Changes.{IsSameImage}
use Rattle.member_changes.specs.Places.{all_written}
use Rattle.changed_libraries.proofs.directories.put_blocks.Given as goal

-- the slots so far, with the blocks that are left at the places that are left, are those that were, with all of them
abbrev pub invariant-loop-place : goal.invariant-loop-place
invariant-loop-place l =
    let g = l.fn.image.geometry in
    record {
      same : IsSameImage l.fn.image l.image;
      slots : all_written g (drop l.place-index l.places) l.left l.image.slots ≡ all_written g l.places l.blocks l.fn.image.slots;
      size : length l.slot ≡ l.fn.image.geometry.track_size;
    }
