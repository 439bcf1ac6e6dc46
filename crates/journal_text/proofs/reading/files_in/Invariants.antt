use Rattle.std.proofs.Common.{◌≡◌, ◌-◌}
use Rattle.journal_text.specs.Spelling.{all_named}
use Rattle.journal_text.specs.Reading.{items_at, file_at}
use Rattle.journal_text.proofs.Loop.{with_front}
use Rattle.journal_text.proofs.reading.files_in.Given as goal

abbrev pub invariant-loop : goal.invariant-loop
invariant-loop l =
    with_front file_at (all_named l.files.items) (items_at file_at (l.count - l.counter) l.rest) ≡ items_at file_at l.count l.bytes
