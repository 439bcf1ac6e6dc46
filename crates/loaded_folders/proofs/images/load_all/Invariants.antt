use Rattle.std.proofs.Common.{List}
use Rattle.std.specs.String.{string_bytes}
use Rattle.changed_volumes.specs.Changes.{IsSameImage}
use Rattle.loaded_folders.specs.Sets.{FolderSet}
use Rattle.loaded_folders.specs.Loads.{GetsAll}
use Rattle.loaded_folders.specs.Parts.{folder_set}
use Rattle.loaded_folders.proofs.Chains.{SoFar}
use Rattle.loaded_folders.proofs.images.load_all.Given as goal

-- the first data sets were loaded
abbrev pub invariant-loop-set : goal.invariant-loop-set
invariant-loop-set l = record {
  same : IsSameImage l.fn.image l.image;
  done : List FolderSet;
  passed : SoFar folder_set l.sets l.set-index done;
  loaded : GetsAll l.source done l.fn.image.geometry l.fn.image.slots l.image.slots (string_bytes l.lines);
}
