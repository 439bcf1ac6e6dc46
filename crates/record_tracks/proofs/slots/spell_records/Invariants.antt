use Rattle.std.proofs.Common.{◌≡◌, length, take, drop}
use Rattle.record_tracks.specs.{Records.all_areas, Writing.records_front, Filled.filled}
use Rattle.record_tracks.proofs.slots.spell_records.Given as goal

-- the slot has the records so far, and zeros behind them
abbrev pub invariant-loop-k : goal.invariant-loop-k
invariant-loop-k l = record {
  size : length l.slot ≡ length l.fn.slot;
  place : l.at ≡ length (records_front l.fn.geometry l.track (take l.k (drop l.from (all_areas l.blocks))));
  written : l.slot ≡ filled (length l.fn.slot) (records_front l.fn.geometry l.track (take l.k (drop l.from (all_areas l.blocks))));
}
