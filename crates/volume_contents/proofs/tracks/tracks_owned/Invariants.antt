use Rattle.std.proofs.Common.{◌≡◌, ◌-◌, ◌^◌, min, sum_by, take}
use Rattle.volume_contents.specs.Tracks.{tracks_in}
use Rattle.volume_contents.proofs.tracks.tracks_owned.Given as goal

-- the tracks of the extents so far
abbrev pub invariant-loop-extent : goal.invariant-loop-extent
invariant-loop-extent l = l.tracks ≡ min (sum_by (tracks_in l.geometry) (take l.extent-index l.extents)) (2 ^ 64 - 1)
