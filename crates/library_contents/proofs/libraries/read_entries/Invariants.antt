use Rattle.std.proofs.Common.{◌≡◌, ◌+◌, List, ℕ, Some, map, take, drop}
use Rattle.library_contents.specs.Members.{library_on, starts_from, starts_of, AreRead}
use Rattle.library_contents.specs.Entries.{said_by, entries_read}
use Rattle.library_contents.specs.Libraries.{numbers_in, member_of}
use Rattle.library_contents.proofs.Read.{after_these}
use Rattle.library_contents.proofs.libraries.read_entries.Given as goal

-- the entries so far, and then those from here on; the members that these name, and then those that the others name
abbrev pub invariant-loop-number : goal.invariant-loop-number
invariant-loop-number g l =
    let before = g.V.SlotReader.volume l.fn.volume in
    let extents = l.directory.extents.now in
    let bytes = l.directory.bytes.now in record {
      entries : (slots : List (List ℕ)) → before.slots ≡ Some slots
          → entries_read (library_on extents before.geometry slots) bytes 1 l.placed ≡ after_these (map said_by l.entries.items)
          (entries_read (library_on extents before.geometry slots) bytes (l.number + 1) (drop l.number l.placed));
      starts : starts_from l.members.starts.items (drop l.number l.placed) ≡ starts_of l.placed;
      numbers : numbers_in l.entries.items ≡ map (member_of l.placed) (take l.number l.placed);
      members : AreRead extents before l.members;
      volume : g.V.SlotReader.volume l.volume ≡ before;
      failures : g.V.SlotReader.failures l.volume ≡ g.V.SlotReader.failures l.fn.volume;
    }
