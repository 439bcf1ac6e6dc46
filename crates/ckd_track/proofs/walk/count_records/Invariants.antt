-- The records behind the walk are counted with those before it.
use Rattle.std.proofs.Common.{◌≡◌, ◌≤◌, ◌+◌, ◌-◌, ◌*◌, length, drop}
use Rattle.ckd_track.specs.Track.{records_from, track_of, number_of_records}
use Rattle.ckd_track.proofs.Reading.{counts}
use Rattle.ckd_track.proofs.walk.count_records.Given as goal

-- what is left, counted after the records so far, is the number of all
abbrev pub invariant-loop-size : goal.invariant-loop-size
invariant-loop-size l = record {
  within : l.at ≤ length l.slot;
  long : 5 + 8 * l.records ≤ l.at;
  rest : counts l.records (records_from (length l.slot - l.records) l.at (drop l.at l.slot)) ≡ number_of_records (track_of l.slot);
}

abbrev pub decreases-loop-size : goal.decreases-loop-size
decreases-loop-size l = length l.slot - l.at
