use Rattle.std.proofs.Common.{◌∙◌, ◌≤◌, ◌∷◌, [], List, map, length, sym, subst, arith, rules, tests, length-append}
use Rattle.std.specs.List.{AllZip}
use Rattle.std.proofs.lemmas.List.{take_all}
use Rattle.std.proofs.lemmas.Result.{err_from_is_err_and}
use Rattle.dasd_jobs.specs.declared.faults.JobFault.{JobFault}
use Rattle.dasd_jobs.specs.declared.reasons.Head.{Head}
use Rattle.dasd_jobs.specs.Causes.{mounting_fault}
use Rattle.dasd_jobs.specs.Sources.{SourceFile, OpenedState, OpensPaths, Mounts}
use Rattle.dasd_jobs.specs.Unopened.{NotOpened}
use Rattle.dasd_jobs.specs.Opening.{IsHeadOf}
use Rattle.dasd_jobs.proofs.Volumes.{Opening, next_opened}
use Rattle.dasd_jobs.proofs.Reached.{mounted_files}
use Rattle.dasd_jobs.proofs.Unopened.{stopped, not_mounted}
use Rattle.dasd_jobs.proofs.opened.open_volume.Goals as goal

pub loop-path-preserved : goal.loop-path-preserved
loop-path-preserved g c =
    let opened = g.F.ImageFiles.opened in
    let content = g.F.Opened.OpenedFile.content in
    let i = c.loop-path.invariant in
    let so_far : Opening = record {
      contents = map content c.loop-path.opened.items;
      heads = c.loop-path.heads.items;
      opened = opened c.loop-path.files;
    } in
    let more : Opening = record {
      contents = map content c.add_file.new.opened.items;
      heads = c.add_file.new.heads.items;
      opened = opened c.add_file.new.files;
    } in
    let next = next_opened (λ path. path.now) c.args.paths.now c.loop-path.path-index _ (opened c.args.files.now) so_far more
    c.loop-path-test.true (record { opens = i.opens; are = i.heads }) c.in_ok-add_file.ensures.adds in
    record {
      kept = c.add_file.ensures.kept ∙ i.kept;
      opens = next.opens;
      heads = next.are;
      count = rw c.in_ok-add_file.ensures.adds.adds.headed (let long =
          length-append c.loop-path.heads.items (c.in_ok-add_file.ensures.adds.adds.head ∷ []) in let so_far = i.count in
          omega (arith, long, so_far));
    }

-- all were, and they hold the volume
pub returns-in-Ok-clause-mounts : goal.returns-in-Ok-clause-mounts
returns-in-Ok-clause-mounts g c =
    let contents = map g.F.Opened.OpenedFile.content c.loop-path.opened.items in
    let are = subst (λ (hs : List Head). AllZip IsHeadOf contents hs) (sym c.as_slice-heads.ensures.value) c.loop-path.invariant.heads in
    subst (λ (v : OpenedState). Mounts c.args.as_far v.contents v.geometry) (sym c.volume_of-volume.ensures)
    (mounted_files c.args.as_far c.in-Ok.geometry contents c.as_slice-heads.result.now are c.in-Ok.ensures.mounts)

-- the next file is not opened
pub returns-in_err-add_file-clause-not_opened : goal.returns-in_err-add_file-clause-not_opened
returns-in_err-add_file-clause-not_opened g c =
    let opened = g.F.ImageFiles.opened in
    let p = err_from_is_err_and c.from_residual.result c.from_residual.ensures.1 in rw (p.1, p.2) (
    stopped (λ path. path.now) c.args.paths.now (opened c.args.files.now) c.args.as_far c.in_err-add_file.field-0.0 c.loop-path.path-index _
    (map g.F.Opened.OpenedFile.content c.loop-path.opened.items)
    (opened c.loop-path.files) (opened c.add_file.new.files) c.loop-path-test.true c.loop-path.invariant.opens
    c.in_err-add_file.ensures.not_added)

-- all were, and they are no image
pub returns-in-Err-clause-not_opened : goal.returns-in-Err-clause-not_opened
returns-in-Err-clause-not_opened g c =
    let opened = g.F.ImageFiles.opened in
    let content = g.F.Opened.OpenedFile.content in
    let before = opened c.args.files.now in
    let contents = map content c.loop-path.opened.items in
    let paths = map (λ path. path.now) c.args.paths.now in
    let heads = c.as_slice-heads.result.now in
    let few : length heads ≤ 8 = search (rules, tests) in
    let all = take_all c.loop-path.path-index c.args.paths.now (let past = c.loop-path-test.false in omega (arith, past)) in
    let those = c.loop-path.invariant.opens in
    let opens = subst (λ ps. OpensPaths (map (λ path. path.now) ps) contents before (opened c.loop-path.files)) all those in
    let are = subst (λ (hs : List Head). AllZip IsHeadOf contents hs) (sym c.as_slice-heads.ensures.value) c.loop-path.invariant.heads in
    subst (λ (f : JobFault). NotOpened c.args.as_far f paths before (opened c.remark_on.new.files)) (sym c.of_mount.ensures)
    (subst (λ (l : List SourceFile). NotOpened c.args.as_far (mounting_fault c.in-Err.fault) paths before l) (sym c.remark_on.ensures.same)
    (not_mounted c.args.as_far c.in-Err.fault paths contents heads before (opened c.loop-path.files) opens are
    (c.in-Err.ensures.not_mounted few)))
