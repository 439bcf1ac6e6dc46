use Rattle.std.proofs.Common.{◌∙◌, ◌+◌, arith}
use Rattle.std.proofs.lemmas.Result.{err_from_is_err_and}
use Rattle.dasd_run.specs.Loads.{with_loaded}
use Rattle.dasd_run.proofs.Loading.{next_file, first_of, more_loaded, not_loaded}
use Rattle.dasd_run.proofs.loads.load_files.Goals as goal

pub returns-in_err-file-clause-loads : goal.returns-in_err-file-clause-loads
returns-in_err-file-clause-loads g c =
    let p = err_from_is_err_and c.from_residual.result c.from_residual.ensures.1 in
    let read = c.in_err-file.ensures.reads in
    rw (p.1, p.2, read.0, read.1)
    (c.loop-i.i, c.loop-i.loaded.items, first_of c.args.names.now _ c.loop-i.i _ _ c.loop-i.invariant.loads, tt)

pub returns-in_err-left-clause-loads : goal.returns-in_err-left-clause-loads
returns-in_err-left-clause-loads g c =
    let p = err_from_is_err_and c.from_residual-in_err-left.result c.from_residual-in_err-left.ensures.1 in
    let i = c.loop-i.i in
    let loaded = c.loop-i.loaded.items in
    let file = c.in_ok-file.file in
    let next = next_file c.args.names.now _ i c.index-names-i.result loaded file _ _ c.loop-i-test.true c.index-names-i.is
    c.loop-i.invariant.loads (rw c.as_slice.ensures.value at c.in_ok-file.ensures.reads) in
    rw (p.1, p.2) (
      i + 1,
      with_loaded loaded file,
      first_of c.args.names.now _ (i + 1) (with_loaded loaded file) _ next,
      not_loaded _ loaded file c.loop-i.left c.loop-i.invariant.total c.in_err-left.ensures,
    )

pub loop-i-preserved : goal.loop-i-preserved
loop-i-preserved g c =
    let loaded = c.loop-i.loaded.items in
    let file = c.in_ok-file.file in
    let next = next_file c.args.names.now _ c.loop-i.i c.index-names-i.result loaded file _ _ c.loop-i-test.true c.index-names-i.is
    c.loop-i.invariant.loads (rw c.as_slice.ensures.value at c.in_ok-file.ensures.reads) in
    record {
      kept = c.in_ok-file.ensures.kept ∙ c.loop-i.invariant.kept;
      loads = rw c.in_ok-left.ensures.0 next;
      total = rw c.in_ok-left.ensures.0 (omega (arith, c.in_ok-left.ensures.1, c.loop-i.invariant.total, more_loaded loaded file));
    }
