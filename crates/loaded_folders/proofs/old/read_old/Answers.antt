use Rattle.std.proofs.Common.{◌≡◌, subst, sym, []}
use Rattle.ckd_track.specs.declared.geometries.Geometry.{Geometry}
use Rattle.volume_contents.specs.Contents.{Said, contents_of}
use Rattle.volume_changes.specs.Volumes.{said_in}
use Rattle.loaded_sets.specs.Volumes.{labelled, SaysOf, IsUnfit, all_findings}
use Rattle.loaded_sets.proofs.Fits.{same_said}
use Rattle.loaded_folders.specs.Faults.{NewMemberFault}
use Rattle.loaded_folders.specs.Libraries.{IsReadOf, IsOld, IsNotRead}
use Rattle.loaded_folders.specs.MemberParts.{IsNotReadIn}
use Rattle.loaded_folders.proofs.Found.{if_ok, if_err, unfit, no_library, old_read, old_unread}
use Rattle.loaded_folders.proofs.old.read_old.Goals as goal

pub returns-in-Err-judge-clause-fault : goal.returns-in-Err-judge-clause-fault
returns-in-Err-judge-clause-fault c =
    let g = c.args.image.now.geometry in
    let slots = c.args.image.now.slots in
    let e = c.in-Err-judge.fault in
    let read = c.in-Ok.contents in
    let same = same_said (contents_of g slots) read c.in-Ok.ensures.says in
    subst (λ (f : NewMemberFault). IsNotRead f c.args.name.now g slots) (sym c.of_placing.ensures)
    (unfit g slots c.args.name.now e (subst (λ (s : Said). IsUnfit e g s) same
    (subst (λ (h : Geometry). IsUnfit e h (said_in read)) c.geometry-geometry.ensures.geometry c.in-Err-judge.ensures.fault)))

pub returns-in-Err-library_set-clause-fault : goal.returns-in-Err-library_set-clause-fault
returns-in-Err-library_set-clause-fault c =
    let g = c.args.image.now.geometry in
    let slots = c.args.image.now.slots in
    let read = c.in-Ok.contents in
    let v = labelled c.in-Ok-judge.volume in
    let is = c.geometry-geometry.ensures.geometry in
    let same = same_said (contents_of g slots) read c.in-Ok.ensures.says in
    let says = subst (λ (s : Said). SaysOf g s v) same
    (subst (λ (h : Geometry). SaysOf h (said_in read) v) is c.in-Ok-judge.ensures.says) in
    let nothing = subst (λ (s : Said). all_findings g s ≡ []) same
    (subst (λ (h : Geometry). all_findings h (said_in read) ≡ []) is c.in-Ok-judge.ensures.nothing) in
    no_library g slots v says nothing c.args.name.now c.in-Err-library_set.fault c.in-Err-library_set.ensures.fault

pub returns-clause-old : goal.returns-clause-old
returns-clause-old c =
    let g = c.args.image.now.geometry in
    let slots = c.args.image.now.slots in
    let read = c.in-Ok.contents in
    let v = labelled c.in-Ok-judge.volume in
    let library = c.in-Ok-library_set.set in
    let is = c.geometry-geometry.ensures.geometry in
    let same = same_said (contents_of g slots) read c.in-Ok.ensures.says in
    let says = subst (λ (s : Said). SaysOf g s v) same
    (subst (λ (h : Geometry). SaysOf h (said_in read) v) is c.in-Ok-judge.ensures.says) in
    let nothing = subst (λ (s : Said). all_findings g s ≡ []) same
    (subst (λ (h : Geometry). all_findings h (said_in read) ≡ []) is c.in-Ok-judge.ensures.nothing) in
    if_ok c.read_held.result (IsReadOf library.set.block library.kept library.set.extents.items g slots) (IsOld c.args.name.now g slots)
    (old_read g slots v says nothing c.args.name.now library c.in-Ok-library_set.ensures.set) c.read_held.ensures.old

pub returns-clause-fault : goal.returns-clause-fault
returns-clause-fault c =
    let g = c.args.image.now.geometry in
    let slots = c.args.image.now.slots in
    let read = c.in-Ok.contents in
    let v = labelled c.in-Ok-judge.volume in
    let library = c.in-Ok-library_set.set in
    let is = c.geometry-geometry.ensures.geometry in
    let same = same_said (contents_of g slots) read c.in-Ok.ensures.says in
    let says = subst (λ (s : Said). SaysOf g s v) same
    (subst (λ (h : Geometry). SaysOf h (said_in read) v) is c.in-Ok-judge.ensures.says) in
    let nothing = subst (λ (s : Said). all_findings g s ≡ []) same
    (subst (λ (h : Geometry). all_findings h (said_in read) ≡ []) is c.in-Ok-judge.ensures.nothing) in
    if_err c.read_held.result (λ e. IsNotReadIn e library.set.extents.items g slots) (λ e. IsNotRead e c.args.name.now g slots)
    (old_unread g slots v says nothing c.args.name.now library c.in-Ok-library_set.ensures.set) c.read_held.ensures.fault
