use Rattle.std.proofs.Common.{◌≡◌, ◌+◌, length, take, drop}
use Rattle.std.specs.List.{concat}
use Rattle.record_tracks.specs.{Entries.all_contents, Entries.all_entries, Filled.PutBehind}
use Rattle.record_tracks.proofs.directories.append_entries.Given as goal

-- the entries so far are there
abbrev pub invariant-loop-k : goal.invariant-loop-k
invariant-loop-k l = record {
  size : length l.block ≡ length l.fn.block;
  place : l.at ≡ 10 + length (concat (take l.k (drop l.from (all_entries (all_contents l.entries)))));
  written : PutBehind 10 (concat (take l.k (drop l.from (all_entries (all_contents l.entries))))) l.fn.block l.block;
}
