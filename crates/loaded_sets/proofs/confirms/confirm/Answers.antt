use Rattle.std.proofs.Common.{sym, subst}
use Rattle.ckd_track.specs.declared.geometries.Geometry.{Geometry}
use Rattle.volume_contents.specs.Contents.{contents_of}
use Rattle.volume_changes.specs.Volumes.{said_in}
use Rattle.loaded_sets.specs.declared.place_fault.PlaceFault.{PlaceFault}
use Rattle.loaded_sets.specs.Volumes.{SaysOf, labelled}
use Rattle.loaded_sets.specs.PlacedParts.{IsUnseen}
use Rattle.loaded_sets.proofs.Lost.{unlisted}
use Rattle.loaded_sets.proofs.confirms.confirm.Goals as goal

pub returns-clause-fault : goal.returns-clause-fault
returns-clause-fault c =
    let g = c.args.image.now.geometry in
    let slots = c.args.image.now.slots in
    subst (λ (e : PlaceFault). IsUnseen e (labelled c.args.volume.now) (contents_of g slots) c.args.block.now c.args.address)
    (sym c.refused-2.ensures)
    (unlisted (labelled c.args.volume.now) (labelled c.in-Ok-judge.now) g slots c.in-Ok.contents c.args.block.now c.args.address
    c.in-Ok.ensures.says (subst (λ (k : Geometry). SaysOf k (said_in c.in-Ok.contents) (labelled c.in-Ok-judge.now))
    c.geometry-geometry.ensures.geometry c.in-Ok-judge.ensures.says) (c.is_listed.ensures.missing c.if-is_listed.false))
