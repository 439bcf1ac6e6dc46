use Rattle.std.proofs.Common.{◌≡◌, ◌-◌, List, ℕ, Some}
use Rattle.library_contents.specs.Members.{library_on}
use Rattle.library_contents.specs.Notes.{notes_from}
use Rattle.library_contents.proofs.Placed.{before_all}
use Rattle.library_contents.proofs.notes.read_notes.Given as goal

-- the notes so far, and then those from here on; the volume stays, and no read failed
abbrev pub invariant-loop-k : goal.invariant-loop-k
invariant-loop-k g l =
    let before = g.V.SlotReader.volume l.fn.volume in
    let user = l.noted.user.now in record {
      notes : (slots : List (List ℕ)) → before.slots ≡ Some slots
          → notes_from (library_on l.noted.extents.now before.geometry slots) l.noted.member.now user l.count 0 ≡ before_all l.notes.items
          (notes_from (library_on l.noted.extents.now before.geometry slots) l.noted.member.now user (l.count - l.k) l.k);
      volume : g.V.SlotReader.volume l.volume ≡ before;
      failures : g.V.SlotReader.failures l.volume ≡ g.V.SlotReader.failures l.fn.volume;
    }
