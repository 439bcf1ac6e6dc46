use Rattle.std.proofs.Common.{◌≡◌, map, take}
use Rattle.loaded_folders.specs.MemberEntries.{note_anew}
use Rattle.loaded_folders.proofs.member_entries.new_notes.Given as goal

-- the notes so far
abbrev pub invariant-loop-note : goal.invariant-loop-note
invariant-loop-note l = l.all.items ≡ map note_anew (take l.note-index l.notes)
