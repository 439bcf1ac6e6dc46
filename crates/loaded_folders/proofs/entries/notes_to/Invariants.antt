use Rattle.std.proofs.Common.{◌≡◌, drop}
use Rattle.loaded_folders.specs.Entries.{notes_behind, notes_to}
use Rattle.loaded_folders.proofs.entries.notes_to.Given as goal

-- the notes so far, and those of the others
abbrev pub invariant-loop-note : goal.invariant-loop-note
invariant-loop-note l = notes_behind l.made.items (drop l.note-index l.notes) ≡ notes_to l.notes
