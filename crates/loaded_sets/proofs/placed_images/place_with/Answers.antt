use Rattle.std.proofs.Common.{◌∙◌, sym, subst, ℕ, List, rules}
use Rattle.ckd_track.specs.declared.geometries.Geometry.{Geometry}
use Rattle.volume_contents.specs.Contents.{contents_of}
use Rattle.loaded_sets.specs.Volumes.{labelled}
use Rattle.loaded_sets.specs.Placed.{HasSet}
use Rattle.loaded_sets.specs.PlacedParts.{IsPlaced, IsWritten, IsUnlisted, IsUnseen}
use Rattle.loaded_sets.proofs.Put.{put}
use Rattle.loaded_sets.proofs.RefusedPlaced.{unplaced, unlisted, unseen}
use Rattle.loaded_sets.proofs.placed_images.place_with.Goals as goal

pub write_set-requires-clause-placed : goal.write_set-requires-clause-placed
write_set-requires-clause-placed c =
    subst (λ (s : List (List ℕ)). IsPlaced (labelled c.args.volume.now) s c.args.set.now c.in_ok-placed.placed)
    (sym c.in_ok-placed.ensures.kept) c.in_ok-placed.ensures.placed

pub returns-in-Ok : goal.returns-in-Ok
returns-in-Ok c =
    let v = labelled c.args.volume.now in
    let set = c.args.set.now in
    let p = c.in_ok-placed.placed in
    let now = c.write_set.new.image.slots in
    let geometry = c.in_ok-address.ensures.same.geometry ∙ c.in_ok-placed.ensures.same.geometry in
    let written = subst (λ (s : List (List ℕ)). IsWritten v set p s c.in_ok-address.address now)
    c.in_ok-placed.ensures.kept c.in_ok-address.ensures.written in
    let has = subst (λ (g : Geometry). (i : ℕ) × HasSet v (contents_of g now) p.block c.in_ok-address.address i)
    (geometry ∙ sym c.requires.geometry) c.in-Ok.ensures.has in
    record {
      same = record { geometry = geometry; lasting = c.in_ok-address.ensures.same.lasting ∙ c.in_ok-placed.ensures.same.lasting };
      placed = put v set p c.args.image.now.slots now c.in_ok-placed.ensures.placed c.in_ok-address.address written has.0 has.1;
      fault = tt;
    }

pub returns-in_err-placed : goal.returns-in_err-placed
returns-in_err-placed c =
    let why = unplaced (labelled c.args.volume.now) c.args.set.now c.args.image.now.slots c.in_err-placed.field-0.0
    c.in_err-placed.ensures.fault in
    search rules

pub returns-in_err-address : goal.returns-in_err-address
returns-in_err-address c =
    let v = labelled c.args.volume.now in
    let placed = c.in_ok-placed.ensures.placed in
    let p = c.in_ok-placed.placed in
    let unlisted_here = subst (λ (s : List (List ℕ)). IsUnlisted c.in_err-address.field-0.0 v p.changes.items s)
    c.in_ok-placed.ensures.kept c.in_err-address.ensures.fault in
    let why = unlisted v c.args.set.now c.args.image.now.slots p.run.first p.run.tracks placed.gets p.changes.items placed.taken
    c.in_err-address.field-0.0 unlisted_here in
    let same = c.in_ok-placed.ensures.same in search rules

pub returns-clause-fault : goal.returns-clause-fault
returns-clause-fault c =
    let v = labelled c.args.volume.now in
    let set = c.args.set.now in
    let p = c.in_ok-placed.placed in
    let now = c.write_set.new.image.slots in
    let geometry = c.in_ok-address.ensures.same.geometry ∙ c.in_ok-placed.ensures.same.geometry in
    let written = subst (λ (s : List (List ℕ)). IsWritten v set p s c.in_ok-address.address now)
    c.in_ok-placed.ensures.kept c.in_ok-address.ensures.written in
    let why = subst (λ (g : Geometry). IsUnseen c.in-Err.fault v (contents_of g now) p.block c.in_ok-address.address)
    (geometry ∙ sym c.requires.geometry) c.in-Err.ensures.fault in
    unseen v set c.args.image.now.slots p c.in_ok-placed.ensures.placed c.in_ok-address.address now written c.in-Err.fault why
