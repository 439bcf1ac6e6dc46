use Rattle.std.proofs.Common.{◌≡◌, All, take, drop}
use Rattle.record_tracks.specs.{Entries.all_contents, Entries.IsEntry, DirectoryFaults.refused_from, DirectoryFaults.refused_entry}
use Rattle.record_tracks.proofs.directory_faults.refused_entry.Given as goal

-- none of the entries so far is refused
abbrev pub invariant-loop-number : goal.invariant-loop-number
invariant-loop-number l = record {
  refused : refused_entry (all_contents l.entries) ≡ refused_from l.number l.before (drop l.number (all_contents l.entries));
  each : All IsEntry (take l.number (all_contents l.entries));
}
