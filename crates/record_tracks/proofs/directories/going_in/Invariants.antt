use Rattle.std.proofs.Common.{◌≡◌, ◌≤◌, ◌+◌, take, drop}
use Rattle.record_tracks.specs.{Entries.all_contents, Entries.all_entries, Directory.going_in, Directory.used_by}
use Rattle.record_tracks.proofs.directories.going_in.Given as goal

-- the entries so far go into the block, and behind them as many as go in behind what they use
abbrev pub invariant-loop-count : goal.invariant-loop-count
invariant-loop-count l = record {
  few : l.used ≤ 256;
  used : l.used ≡ used_by (take l.count (drop l.from (all_entries (all_contents l.entries))));
  fit : going_in 2 (drop l.from (all_entries (all_contents l.entries)))
      ≡ l.count + going_in l.used (drop l.count (drop l.from (all_entries (all_contents l.entries))));
}
