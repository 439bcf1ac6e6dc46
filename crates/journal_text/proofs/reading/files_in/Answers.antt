use Rattle.std.proofs.Common.{◌≡◌, ◌++◌, ◌∷◌, []}
use Rattle.std.proofs.lemmas.Result.{err_from_is_err_and}
use Rattle.std.proofs.lemmas.List.{map_push}
use Rattle.journal_text.specs.Spelling.{named_of, all_named}
use Rattle.journal_text.specs.Reading.{items_at, file_at}
use Rattle.journal_text.proofs.Loop.{goes_on, ends, is_done}
use Rattle.journal_text.proofs.reading.files_in.Goals as goal

pub returns-in_err-file : goal.returns-in_err-file
returns-in_err-file c =
    let p = err_from_is_err_and c.from_residual.result c.from_residual.ensures.1 in
    rw (p.1, p.2) (ends file_at c.in_err-file.field-0.0 (all_named c.loop.files.items) c.args.count c.loop.counter c.loop.rest.now
    (items_at file_at c.args.count c.args.bytes.now) c.loop-test.true c.in_err-file.ensures c.loop.invariant)

pub loop-preserved : goal.loop-preserved
loop-preserved c =
    let n = c.in_ok-file.file in
    let e : all_named c.push.new.self.items ≡ all_named c.loop.files.items ++ named_of n ∷ [] =
    rw c.in_ok-push.ensures.items (map_push _ c.loop.files.items n) in
    rw e (goes_on file_at (all_named c.loop.files.items) c.args.count c.loop.counter c.loop.rest.now (named_of n) c.in_ok-file.after.now
    (items_at file_at c.args.count c.args.bytes.now) c.loop-test.true c.in_ok-file.ensures c.loop.invariant)

pub returns : goal.returns
returns c =
    is_done file_at (all_named c.loop.files.items) c.args.count c.loop.counter c.loop.rest.now
    (items_at file_at c.args.count c.args.bytes.now) c.loop-test.false c.loop.invariant
