use Rattle.std.proofs.Common.{◌≡◌, ◌++◌, ◌∷◌, []}
use Rattle.std.proofs.lemmas.Result.{err_from_is_err_and}
use Rattle.std.proofs.lemmas.List.{map_push}
use Rattle.atomic_save.specs.Changes.{note_of}
use Rattle.journal_text.specs.Spelling.{all_notes}
use Rattle.journal_text.specs.Reading.{items_at, change_at}
use Rattle.journal_text.proofs.Loop.{goes_on, ends, is_done}
use Rattle.journal_text.proofs.reading.changes_in.Goals as goal

pub returns-in_err-change : goal.returns-in_err-change
returns-in_err-change c =
    let p = err_from_is_err_and c.from_residual.result c.from_residual.ensures.1 in
    rw (p.1, p.2) (ends change_at c.in_err-change.field-0.0 (all_notes c.loop.changes.items) c.args.count c.loop.counter c.loop.rest.now
    (items_at change_at c.args.count c.args.bytes.now) c.loop-test.true c.in_err-change.ensures c.loop.invariant)

pub loop-preserved : goal.loop-preserved
loop-preserved c =
    let n = c.in_ok-change.change in
    let e : all_notes c.push.new.self.items ≡ all_notes c.loop.changes.items ++ note_of n ∷ [] =
    rw c.in_ok-push.ensures.items (map_push _ c.loop.changes.items n) in
    rw e (goes_on change_at (all_notes c.loop.changes.items) c.args.count c.loop.counter c.loop.rest.now (note_of n)
    c.in_ok-change.after.now (items_at change_at c.args.count c.args.bytes.now) c.loop-test.true c.in_ok-change.ensures c.loop.invariant)

pub returns : goal.returns
returns c =
    is_done change_at (all_notes c.loop.changes.items) c.args.count c.loop.counter c.loop.rest.now
    (items_at change_at c.args.count c.args.bytes.now) c.loop-test.false c.loop.invariant
