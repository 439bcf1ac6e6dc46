use Rattle.std.proofs.Common.{◌≡◌, ◌++◌, length, take}
use Rattle.std.specs.List.{flat_map}
use Rattle.journal_text.specs.Spelling.{number, change_text, all_notes}
use Rattle.journal_text.proofs.writing.put_changes.Given as goal

abbrev pub invariant-loop-change : goal.invariant-loop-change
invariant-loop-change l =
    l.out.items ≡ l.fn.out.items ++ number (length l.changes) ++ flat_map change_text (all_notes (take l.change-index l.changes))
