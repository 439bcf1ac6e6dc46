use Rattle.std.proofs.Common.{◌≡◌, length}
use Rattle.dasd_unload.specs.Described.{NotesAre}
use Rattle.dasd_unload.proofs.entries.read_notes.Given as goal

-- the notes so far
abbrev pub invariant-loop-i : goal.invariant-loop-i
invariant-loop-i g l = record {
  notes : NotesAre l.library.extents.now l.member l.notes l.i (g.V.SlotReader.volume l.fn.volume) l.found.items;
  count : length l.found.items ≡ l.i;
  kept : g.V.SlotReader.volume l.volume ≡ g.V.SlotReader.volume l.fn.volume;
}
