use Rattle.std.proofs.Common.{◌≡◌, ◌≤◌, ◌-◌, length}
use Rattle.record_tracks.specs.BlockFaults.{has_records, has_records_from}
use Rattle.record_tracks.proofs.block_faults.has_records.Given as goal

-- the records so far are passed
abbrev pub invariant-loop-k : goal.invariant-loop-k
invariant-loop-k l = (l.at ≤ length l.block) × (has_records l.form l.block ≡ has_records_from (length l.block - l._k) l.form l.block l.at)
