use Rattle.std.proofs.Common.{take, map}
use Rattle.std.specs.Io.KnownBytes.{Appends}
use Rattle.set_forms.specs.Forms.{spaced, note_text}
use Rattle.set_forms.proofs.entries.write_notes.Given as goal

-- the notes so far are written
abbrev pub invariant-loop-note : goal.invariant-loop-note
invariant-loop-note g l = Appends (g.W.Write.contents l.fn.writer) (g.W.Write.contents l.writer) (spaced (map note_text
    (take l.note-index l.notes)))
