use Rattle.std.proofs.Common.{subst, ℕ, List, IfOk, IfErr}
use Rattle.ckd_track.specs.declared.geometries.Geometry.{Geometry}
use Rattle.loaded_folders.specs.Added.{Added, IsNotAdded}
use Rattle.loaded_folders.specs.MemberParts.{MakesBlocks, IsNotMade, PutsLibrary, IsNotPut}
use Rattle.loaded_folders.proofs.Found.{if_ok, if_err}
use Rattle.loaded_folders.proofs.Adds.{not_read, not_made, not_deleted, put, not_put}
use Rattle.loaded_folders.proofs.member_images.add_member.Goals as goal

pub returns-in-Err-clause-fault : goal.returns-in-Err-clause-fault
returns-in-Err-clause-fault c =
    not_read c.args.added.now c.args.image.now.geometry c.args.image.now.slots c.in-Err.fault c.in-Err.ensures.fault

pub returns-in-Err-new_blocks-clause-fault : goal.returns-in-Err-new_blocks-clause-fault
returns-in-Err-new_blocks-clause-fault c =
    not_made c.args.added.now c.args.image.now.geometry c.args.image.now.slots c.in-Ok.old c.in-Ok.ensures.old c.in-Err-new_blocks.fault
    (subst (λ (h : Geometry). IsNotMade c.in-Err-new_blocks.fault c.args.added.now h.model c.in-Ok.old) c.geometry-model.ensures.geometry
    c.in-Err-new_blocks.ensures.fault)

pub returns-clause-fault : goal.returns-clause-fault
returns-clause-fault c =
    let added = c.args.added.now in
    let old = c.in-Ok.old in
    let blocks = c.in-Ok-new_blocks.blocks.items in
    let made = subst (λ (h : Geometry). MakesBlocks added h.model old blocks) c.geometry-model.ensures.geometry
    c.in-Ok-new_blocks.ensures.blocks in
    not_deleted added c.args.image.now.geometry c.args.image.now.slots old c.in-Ok.ensures.old blocks made c.in-Err-delete_old.fault
    c.in-Err-delete_old.ensures.fault

pub returns-in-Ok-delete_old-clause-added : goal.returns-in-Ok-delete_old-clause-added
returns-in-Ok-delete_old-clause-added c =
    let added = c.args.added.now in
    let g = c.args.image.now.geometry in
    let slots = c.args.image.now.slots in
    let old = c.in-Ok.old in
    let blocks = c.in-Ok-new_blocks.blocks.items in
    let between = c.delete_old.new.image.slots in
    let now = c.put_new.new.image.slots in
    let made = subst (λ (h : Geometry). MakesBlocks added h.model old blocks) c.geometry-model.ensures.geometry
    c.in-Ok-new_blocks.ensures.blocks in
    if_ok c.put_new.result (λ n. PutsLibrary added old blocks g between n now) (λ n. Added added g slots n now)
    (λ n. put added g slots old c.in-Ok.ensures.old blocks made between c.in-Ok-delete_old.ensures.slots n now)
    (subst (λ (b : List ℕ). IfOk c.put_new.result (λ n. PutsLibrary added old b g between n now)) c.as_slice.ensures.value
    (subst (λ (h : Geometry). IfOk c.put_new.result (λ n. PutsLibrary added old c.as_slice.result.now h between n now))
    c.delete_old.ensures.same.geometry c.put_new.ensures.puts))

pub returns-in-Ok-delete_old-clause-fault : goal.returns-in-Ok-delete_old-clause-fault
returns-in-Ok-delete_old-clause-fault c =
    let added = c.args.added.now in
    let g = c.args.image.now.geometry in
    let slots = c.args.image.now.slots in
    let old = c.in-Ok.old in
    let blocks = c.in-Ok-new_blocks.blocks.items in
    let between = c.delete_old.new.image.slots in
    let made = subst (λ (h : Geometry). MakesBlocks added h.model old blocks) c.geometry-model.ensures.geometry
    c.in-Ok-new_blocks.ensures.blocks in
    if_err c.put_new.result (λ e. IsNotPut e added old blocks g between) (λ e. IsNotAdded e added g slots)
    (not_put added g slots old c.in-Ok.ensures.old blocks made between c.in-Ok-delete_old.ensures.slots)
    (subst (λ (b : List ℕ). IfErr c.put_new.result (λ e. IsNotPut e added old b g between)) c.as_slice.ensures.value
    (subst (λ (h : Geometry). IfErr c.put_new.result (λ e. IsNotPut e added old c.as_slice.result.now h between))
    c.delete_old.ensures.same.geometry c.put_new.ensures.fault))
