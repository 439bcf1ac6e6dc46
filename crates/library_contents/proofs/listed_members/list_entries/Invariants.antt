use Rattle.std.proofs.Common.{◌≡◌, ◌-◌, List, ℕ, Some, length}
use Rattle.library_contents.specs.Lines.{shown}
use Rattle.library_contents.specs.ListedMembers.{user_data, member_lines, entries_lines, lines_from}
use Rattle.library_contents.proofs.Added.{AreLeft}
use Rattle.library_contents.proofs.listed_members.list_entries.Given as goal

-- the lines of the entries so far were added, and those from here on are left; the volume stays, and no read failed
abbrev pub invariant-loop : goal.invariant-loop
invariant-loop g l =
    let before = g.V.SlotReader.volume l.fn.volume in
    let s = shown l.library.form in
    let extents = l.library.extents.now in record {
      lines : (slots : List (List ℕ)) → before.slots ≡ Some slots
          → AreLeft l.fn.report l.report (entries_lines s extents l.bytes before.geometry slots)
          (lines_from s (λ e next. member_lines s extents e (user_data l.bytes e next) before.geometry slots)
          (length l.bytes - l.counter) l.bytes l.at);
      volume : g.V.SlotReader.volume l.volume ≡ before;
      failures : g.V.SlotReader.failures l.volume ≡ g.V.SlotReader.failures l.fn.volume;
    }
