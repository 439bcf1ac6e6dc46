use Rattle.std.proofs.Common.{◌≡◌, subst, [], rules}
use Rattle.std.proofs.lemmas.Result.{IfOk-weaker, IfErr-weaker}
use Rattle.ckd_track.specs.declared.geometries.Geometry.{Geometry}
use Rattle.volume_contents.specs.Contents.{Said, contents_of}
use Rattle.volume_changes.specs.Volumes.{said_in}
use Rattle.loaded_sets.specs.Volumes.{labelled, SaysOf, IsUnfit, all_findings}
use Rattle.loaded_sets.specs.Loaded.{Loaded, IsNotLoaded}
use Rattle.loaded_sets.specs.Parts.{IsPut, IsNotPut}
use Rattle.loaded_sets.proofs.Fits.{same_said, loaded, not_put, unfit}
use Rattle.loaded_sets.proofs.images.load_image.Goals as goal

pub returns : goal.returns
returns c =
    let g = c.args.image.now.geometry in
    let before = c.args.image.now.slots in
    let now = c.put_set.new.image.slots in
    let v = labelled c.in-Ok-judge.volume in
    let set = c.args.set.now in
    let read = c.in-Ok.contents in
    let same = same_said (contents_of g before) read c.in-Ok.ensures.says in
    let is = c.geometry-geometry.ensures.geometry in
    let says = subst (λ (s : Said). SaysOf g s v) same
    (subst (λ (h : Geometry). SaysOf h (said_in read) v) is c.in-Ok-judge.ensures.says) in
    let nothing = subst (λ (s : Said). all_findings g s ≡ []) same
    (subst (λ (h : Geometry). all_findings h (said_in read) ≡ []) is c.in-Ok-judge.ensures.nothing) in
    record {
      same = c.put_set.ensures.same;
      loaded = IfOk-weaker c.put_set.result (λ n. IsPut v set before n now) (λ n. Loaded set g before n now)
          (λ n. loaded g before v says nothing set n now) c.put_set.ensures.put;
      fault = IfErr-weaker c.put_set.result (λ f. IsNotPut f v set before) (λ f. IsNotLoaded f set g before)
          (not_put g before v says nothing set)
          c.put_set.ensures.fault;
    }

pub returns-in-Err-judge : goal.returns-in-Err-judge
returns-in-Err-judge c =
    let g = c.args.image.now.geometry in
    let before = c.args.image.now.slots in
    let read = c.in-Ok.contents in
    let e = c.in-Err-judge.fault in
    let is = c.geometry-geometry.ensures.geometry in
    let same = same_said (contents_of g before) read c.in-Ok.ensures.says in
    let why = unfit g before c.args.set.now e (subst (λ (s : Said). IsUnfit e g s) same
    (subst (λ (h : Geometry). IsUnfit e h (said_in read)) is c.in-Err-judge.ensures.fault)) in
    search rules
