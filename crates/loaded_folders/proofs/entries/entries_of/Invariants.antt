use Rattle.std.proofs.Common.{◌≡◌, map, drop}
use Rattle.loaded_folders.specs.Entries.{entries_behind, entries_of}
use Rattle.loaded_folders.specs.Parts.{folder_entry}
use Rattle.loaded_folders.proofs.entries.entries_of.Given as goal

-- the entries so far, and those of the other lines
abbrev pub invariant-loop-entry : goal.invariant-loop-entry
invariant-loop-entry l =
    entries_behind l.members.items (map folder_entry l.made.items) (map (λ e. e.now) (drop l.entry-index l.entries))
    ≡ entries_of (map (λ e. e.now) l.entries)
