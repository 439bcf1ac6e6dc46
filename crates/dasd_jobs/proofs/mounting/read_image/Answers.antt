use Rattle.std.proofs.Common.{◌≡◌, false, ◌≤◌, List, ℕ, inl, length, map, subst, sym, arith}
use Rattle.std.specs.List.{AllZip}
use Rattle.std.proofs.lemmas.List.{length-map}
use Rattle.std.proofs.lemmas.Result.{IfOk-weaker, IfErr-weaker, err_from_is_err_and}
use Rattle.ckd_image.specs.Image.{ImageState}
use Rattle.ckd_image.specs.Files.{each}
use Rattle.dasd_files.specs.Files.{FileState}
use Rattle.dasd_jobs.specs.declared.faults.JobFault.{JobFault}
use Rattle.dasd_jobs.specs.declared.reasons.Head.{Head}
use Rattle.dasd_jobs.specs.Causes.{mounting_fault}
use Rattle.dasd_jobs.specs.Sources.{SourceFile, IsWhole, ReadsWhole}
use Rattle.dasd_jobs.specs.Unopened.{NotOpened, NotRead}
use Rattle.dasd_jobs.specs.Opening.{IsHeadOf, IsNoImage}
use Rattle.dasd_jobs.proofs.Volumes.{both_long}
use Rattle.dasd_jobs.proofs.Unopened.{not_mounted, not_an_image, not_read}
use Rattle.dasd_jobs.proofs.mounting.read_image.Goals as goal

pub returns-clause-whole : goal.returns-clause-whole
returns-clause-whole g c =
    let content = g.F.Opened.OpenedFile.content in
    let opened = g.F.ImageFiles.opened in
    let contents = map content c.in_ok-locked.locked.items in
    let paths = map (λ path. path.now) c.args.paths.now in
    let bytes = each (λ (f : FileState). f.content) c.in_ok-stores.stores.items in
    IfOk-weaker c.mount.result (λ (i : ImageState). i.lasting.origins ≡ bytes) (λ (i : ImageState). ReadsWhole paths i.lasting.origins
    (opened c.args.files.now) (opened c.lock_files.new.files))
    (λ i are. record {
      contents = contents;
      opens = c.in_ok-locked.ensures.opens;
      whole = subst (λ (b : List (List ℕ)). AllZip IsWhole contents b) (sym are) c.in_ok-stores.ensures.whole;
    }) c.mount.ensures.same

-- the files were locked, and they are no image
pub returns-in-Err-clause-not_read : goal.returns-in-Err-clause-not_read
returns-in-Err-clause-not_read g c =
    let opened = g.F.ImageFiles.opened in
    let before = opened c.args.files.now in
    let now = opened c.lock_files.new.files in
    let contents = map g.F.Opened.OpenedFile.content c.in_ok-locked.locked.items in
    let paths = map (λ path. path.now) c.args.paths.now in
    let heads = c.as_slice-heads.result.now in
    let are = subst (λ (hs : List Head). AllZip IsHeadOf contents hs) (sym c.as_slice-heads.ensures.value) c.in_ok-locked.ensures.heads in
    let both = both_long IsHeadOf contents heads are in
    let count = c.in_ok-locked.ensures.opens.count in
    let long = length-map c.args.paths.now (λ path. path.now) in
    let room = c.if-paths-gt-MOST_FILES.false in
    let few : length heads ≤ 8 = omega (arith, both, count, long, room) in
    inl (subst (λ (f : JobFault). NotOpened false f paths before (opened c.remark_on.new.files)) (sym c.of_mount.ensures)
    (subst (λ (l : List SourceFile). NotOpened false (mounting_fault c.in-Err.fault) paths before l) (sym c.remark_on.ensures.same)
    (not_mounted false c.in-Err.fault paths contents heads before now c.in_ok-locked.ensures.opens are (c.in-Err.ensures.not_mounted few))))

-- or one was not read whole
pub returns-in_err-stores-clause-not_read : goal.returns-in_err-stores-clause-not_read
returns-in_err-stores-clause-not_read g c =
    let opened = g.F.ImageFiles.opened in
    let p = err_from_is_err_and c.from_residual-in_err-stores.result c.from_residual-in_err-stores.ensures.1 in
    rw (p.1, p.2) (inl (not_read c.in_err-stores.field-0.0 (map (λ path. path.now) c.args.paths.now)
    (map g.F.Opened.OpenedFile.content c.in_ok-locked.locked.items)
    (opened c.args.files.now) (opened c.lock_files.new.files) c.in_ok-locked.ensures.opens c.in_err-stores.ensures.fault))

-- or what was read is no image
pub returns-clause-not_read : goal.returns-clause-not_read
returns-clause-not_read g c =
    let opened = g.F.ImageFiles.opened in
    let before = opened c.args.files.now in
    let now = opened c.lock_files.new.files in
    let contents = map g.F.Opened.OpenedFile.content c.in_ok-locked.locked.items in
    let paths = map (λ path. path.now) c.args.paths.now in
    let bytes = each (λ (f : FileState). f.content) c.in_ok-stores.stores.items in
    IfErr-weaker c.mount.result (λ (f : JobFault). IsNoImage f bytes) (λ (f : JobFault). NotRead f paths before now)
    (λ f no_image. inl (not_an_image f paths contents bytes before now c.in_ok-locked.ensures.opens c.in_ok-stores.ensures.whole no_image))
    c.mount.ensures.not_mounted
