use Rattle.std.proofs.Common.{◌≡◌, ◌-◌}
use Rattle.journal_text.specs.Spelling.{all_notes}
use Rattle.journal_text.specs.Reading.{items_at, change_at}
use Rattle.journal_text.proofs.Loop.{with_front}
use Rattle.journal_text.proofs.reading.changes_in.Given as goal

abbrev pub invariant-loop : goal.invariant-loop
invariant-loop l =
    with_front change_at (all_notes l.changes.items) (items_at change_at (l.count - l.counter) l.rest) ≡ items_at change_at l.count l.bytes
