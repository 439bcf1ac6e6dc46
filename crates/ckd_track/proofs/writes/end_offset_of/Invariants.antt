-- The walk stands where a record begins, or at the end mark.
use Rattle.std.proofs.Common.{◌≡◌, ◌≤◌, ◌+◌, ◌-◌, ℕ, length}
use Rattle.ckd_track.specs.Track.{track_in}
use Rattle.ckd_track.proofs.Places.{place}
use Rattle.ckd_track.proofs.writes.end_offset_of.Given as goal

-- some records of the track lie before this place
abbrev pub invariant-loop-size : goal.invariant-loop-size
invariant-loop-size l = record {
  passed : (k : ℕ) × (k ≤ length (track_in l.slot).records) × (l.at ≡ place (track_in l.slot) k);
  room : l.at + 8 ≤ length l.slot;
}

abbrev pub decreases-loop-size : goal.decreases-loop-size
decreases-loop-size l = length l.slot - l.at
