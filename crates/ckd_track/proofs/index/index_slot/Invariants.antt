-- The records behind the walk are counted and noted with those before it.
use Rattle.std.proofs.Common.{◌≡◌, ◌≤◌, ◌+◌, ◌-◌, ◌*◌, length, take, drop}
use Rattle.ckd_track.specs.Track.{records_from, track_of, number_of_records, offsets_of}
use Rattle.ckd_track.proofs.Reading.{counts, noted}
use Rattle.ckd_track.proofs.index.index_slot.Given as goal

-- what is left, behind the records so far, gives the number and the offsets of all
abbrev pub invariant-loop-size : goal.invariant-loop-size
invariant-loop-size l = record {
  within : l.at ≤ length l.slot;
  long : 5 + 8 * l.records ≤ l.at;
  room : l.records ≤ length l.table;
  rest : counts l.records (records_from (length l.slot - l.records) l.at (drop l.at l.slot)) ≡ number_of_records (track_of l.slot);
  offsets : noted (take l.records l.table) l.at (records_from (length l.slot - l.records) l.at (drop l.at l.slot)) ≡ offsets_of l.slot;
  behind : drop l.records l.table ≡ drop l.records l.initial.table;
}

abbrev pub decreases-loop-size : goal.decreases-loop-size
decreases-loop-size l = length l.slot - l.at
