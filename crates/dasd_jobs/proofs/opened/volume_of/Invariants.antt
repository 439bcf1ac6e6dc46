use Rattle.std.proofs.Common.{◌≡◌, take, length}
use Rattle.std.specs.List.{AllZip}
use Rattle.dasd_jobs.specs.Opening.{AreTracks}
use Rattle.dasd_jobs.proofs.opened.volume_of.Given as goal

-- the tracks of the files so far are counted
abbrev pub invariant-loop-head : goal.invariant-loop-head
invariant-loop-head g l = record {
  counts : AllZip (AreTracks l.geometry) (take l.head-index l.heads) l.tracks.items;
  count : length l.tracks.items ≡ l.head-index;
}
