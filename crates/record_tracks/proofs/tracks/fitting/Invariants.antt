use Rattle.std.proofs.Common.{◌≡◌, ◌+◌, ◌<◌, drop}
use Rattle.record_tracks.specs.{Records.all_areas, Tracks.fitting, Tracks.fitting_on}
use Rattle.record_tracks.proofs.tracks.fitting.Given as goal

-- those so far fit, and behind them as many as fit behind what they take
abbrev pub invariant-loop-k : goal.invariant-loop-k
invariant-loop-k l = record {
  taken : l.taken < 200000;
  fit : fitting_on l.model (drop l.from (all_areas l.blocks)) ≡ l.k + fitting l.model l.taken (drop l.k (drop l.from (all_areas l.blocks)));
}
