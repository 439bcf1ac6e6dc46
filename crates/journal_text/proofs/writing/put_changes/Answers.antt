use Rattle.std.proofs.Common.{◌++◌, length, take, List, ℕ, ap, sym, append_assoc, ◌∙◌}
use Rattle.std.specs.List.{flat_map}
use Rattle.atomic_save.specs.Changes.{note_of}
use Rattle.journal_text.specs.Spelling.{number, change_text, all_notes}
use Rattle.journal_text.proofs.Loop.{one_more}
use Rattle.journal_text.proofs.writing.put_changes.Goals as goal

pub loop-change-preserved : goal.loop-change-preserved
loop-change-preserved c =
    let cs = c.args.changes.now in
    let i = c.loop-change.change-index in
    let head = number (length cs) in
    let before = flat_map change_text (all_notes (take i cs)) in
    let text = change_text (note_of c.change-item.result) in
    let more = one_more note_of change_text cs i c.change-item.result c.loop-change-test.true c.change-item.is in
    let front = c.args.out.now.items ++ head in
    c.in_ok-put_change.ensures ∙ ap (λ (l : List ℕ). l ++ text) c.loop-change.invariant ∙ append_assoc front before text
    ∙ ap (λ (l : List ℕ). front ++ l) (sym more)
