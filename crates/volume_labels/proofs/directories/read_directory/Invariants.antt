use Rattle.std.proofs.Common.{◌≡◌, ◌-◌, ◌++◌, length}
use Rattle.volume_labels.specs.Directories.{entries_from, entries_of}
use Rattle.volume_labels.proofs.directories.read_directory.Given as goal

-- the entries so far, and then those from here on
abbrev pub invariant-loop : goal.invariant-loop
invariant-loop l = record {
  entries : (entries_of l.bytes).entries ≡ l.entries.items ++ (entries_from (length l.bytes - l.counter) l.bytes l.at).entries;
  fault : (entries_of l.bytes).fault ≡ (entries_from (length l.bytes - l.counter) l.bytes l.at).fault;
}
