use Rattle.std.proofs.Common.{ℕ, ◌≡◌, ◌<◌, false, slice_index}
use Rattle.ckd_track.specs.Track.{record_in}
use Rattle.dasd_volumes.specs.Volumes.{holds}
use Rattle.dasd_archive.proofs.numbered.has_number.Given as goal

-- none of the records so far has one of the numbers
abbrev pub invariant-loop-i : goal.invariant-loop-i
invariant-loop-i l = (k : ℕ) → k < l.i → holds l.numbers (slice_index (record_in l.track k).id 4) ≡ false
