use Rattle.std.proofs.Common.{◌≡◌, map, take}
use Rattle.loaded_folders.specs.Entries.{member_parts}
use Rattle.loaded_folders.specs.Parts.{folder_entry}
use Rattle.loaded_folders.proofs.entries.member_entries.Given as goal

-- the entries so far
abbrev pub invariant-loop-entry : goal.invariant-loop-entry
invariant-loop-entry l = map member_parts l.made.items ≡ map folder_entry (take l.entry-index l.entries)
