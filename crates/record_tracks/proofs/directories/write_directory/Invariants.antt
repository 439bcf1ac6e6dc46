use Rattle.std.proofs.Common.{◌≡◌, ◌≤◌, ◌+◌, ◌-◌, ◌*◌, ◌/◌, ◌++◌, length, take, drop}
use Rattle.std.specs.List.{concat}
use Rattle.record_tracks.specs.{Entries.all_contents, Entries.all_entries, Directory.blocks_of}
use Rattle.record_tracks.proofs.directories.write_directory.Given as goal

-- the blocks so far are there, and behind them come those that begin with the entries that are left
abbrev pub invariant-loop-k : goal.invariant-loop-k
invariant-loop-k l = record {
  within : l.from ≤ length l.entries + 1;
  blocks : concat (blocks_of (all_entries (all_contents l.entries)) (length l.fn.directory / 264)) ≡ take (l.k * 264) l.directory
      ++ concat (blocks_of (drop l.from (all_entries (all_contents l.entries))) (length l.fn.directory / 264 - l.k));
}
