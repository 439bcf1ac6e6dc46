use Rattle.std.proofs.Common.{◌∙◌, map}
use Rattle.std.proofs.lemmas.Result.{err_from_is_err_and}
use Rattle.dasd_jobs.proofs.Volumes.{Opening, next_opened}
use Rattle.dasd_jobs.proofs.Unopened.{stopped_locking}
use Rattle.dasd_jobs.proofs.mounting.lock_files.Goals as goal

pub loop-path-preserved : goal.loop-path-preserved
loop-path-preserved g c =
    let opened = g.F.ImageFiles.opened in
    let content = g.F.Opened.OpenedFile.content in
    let i = c.loop-path.invariant in
    let so_far : Opening = record {
      contents = map content c.loop-path.locked.items;
      heads = c.loop-path.heads.items;
      opened = opened c.loop-path.files;
    } in
    let more : Opening = record {
      contents = map content c.lock_file.new.locked.items;
      heads = c.lock_file.new.heads.items;
      opened = opened c.lock_file.new.files;
    } in
    let next = next_opened (λ path. path.now) c.args.paths.now c.loop-path.path-index _ (opened c.args.files.now) so_far more
    c.loop-path-test.true (record { opens = i.opens; are = i.heads }) c.in_ok-lock_file.ensures.adds in
    record { kept = c.lock_file.ensures.kept ∙ i.kept; opens = next.opens; heads = next.are }

-- the next file is not locked
pub returns-in_err-lock_file-clause-not_locked : goal.returns-in_err-lock_file-clause-not_locked
returns-in_err-lock_file-clause-not_locked g c =
    let opened = g.F.ImageFiles.opened in
    let i = c.loop-path.invariant in
    let p = err_from_is_err_and c.from_residual.result c.from_residual.ensures.1 in rw (p.1, p.2) (
    stopped_locking (λ path. path.now) c.args.paths.now (opened c.args.files.now) c.in_err-lock_file.field-0.0 c.loop-path.path-index _
    (map g.F.Opened.OpenedFile.content c.loop-path.locked.items) c.loop-path.heads.items
    (opened c.loop-path.files) (opened c.lock_file.new.files) c.loop-path-test.true i.opens i.heads c.in_err-lock_file.ensures.not_locked)
