use Rattle.std.proofs.Common.{◌≡◌, drop}
use Rattle.volume_labels.specs.Addresses.{track_of}
use Rattle.volume_labels.proofs.addresses.track_of.Given as goal

-- the track is so many further on over the extents that are left
abbrev pub invariant-loop-extent : goal.invariant-loop-extent
invariant-loop-extent l = track_of l.heads l.extents l.relative ≡ track_of l.heads (drop l.extent-index l.extents) l.left
