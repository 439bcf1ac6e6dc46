use Rattle.std.proofs.Common.{◌≡◌, drop, fold, length}
use Rattle.volume_changes.specs.Volumes.{serial_in}
use Rattle.changed_volumes.specs.Changes.{IsSameImage}
use Rattle.changed_volumes.proofs.images.write_serials.Given as goal

-- the slots so far, changed for those that are left, are those that were, changed for all
abbrev pub invariant-loop-block : goal.invariant-loop-block
invariant-loop-block l = let one = serial_in l.fn.image.geometry l.old l.new in record {
  same : IsSameImage l.fn.image l.image;
  slots : fold one l.image.slots (drop l.block-index l.blocks) ≡ fold one l.fn.image.slots l.blocks;
  size : length l.slot ≡ l.fn.image.geometry.track_size;
}
