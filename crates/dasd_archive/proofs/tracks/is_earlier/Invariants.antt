use Rattle.std.proofs.Common.{ℕ, ◌≡◌, ◌<◌, false, bytes_eq}
use Rattle.ckd_track.specs.Track.{record_in}
use Rattle.dasd_archive.proofs.tracks.is_earlier.Given as goal

-- none of the records so far has the identifier
abbrev pub invariant-loop-i : goal.invariant-loop-i
invariant-loop-i l = (k : ℕ) → k < l.i → bytes_eq (record_in l.view k).id l.wanted ≡ false
