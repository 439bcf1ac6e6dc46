use Rattle.std.proofs.Common.{◌∙◌, ap, arith}
use Rattle.ckd_track.specs.declared.geometries.Geometry.{Geometry}
use Rattle.ckd_image.specs.Store.{overwritten}
use Rattle.ckd_image.specs.Image.{new_file}
use Rattle.ckd_image.proofs.NewVolumeLemmas.{written_whole, new_file_mounted, new_image_seen}
use Rattle.ckd_image.proofs.images.Image.format.Goals as goal

pub image_of_one-requires : goal.image_of_one-requires
image_of_one-requires g c =
    let whole = written_whole c.args.model c.args.cylinders (g.S.ImageStore.content c.args.store)
    (g.S.ImageStore.content c.write_new_volume.new.store) (let bound = rw c.new-geometry.ensures at c.file_length.ensures in
    omega (arith, bound)) (c.in-Ok.ensures.written
    ∙ ap (λ (k : Geometry). overwritten (g.S.ImageStore.content c.args.store) 0 (new_file k)) c.new-geometry.ensures) in
    rw (c.new-geometry.ensures, whole) (new_file_mounted c.args.model c.args.cylinders (omega arith) c.ranges.cylinders.fits)

pub returns-in-Ok-clause-image : goal.returns-in-Ok-clause-image
returns-in-Ok-clause-image g c =
    let whole = written_whole c.args.model c.args.cylinders (g.S.ImageStore.content c.args.store)
    (g.S.ImageStore.content c.write_new_volume.new.store) (let bound = rw c.new-geometry.ensures at c.file_length.ensures in
    omega (arith, bound)) (c.in-Ok.ensures.written
    ∙ ap (λ (k : Geometry). overwritten (g.S.ImageStore.content c.args.store) 0 (new_file k)) c.new-geometry.ensures) in
    c.image_of_one.ensures ∙ rw (c.new-geometry.ensures, whole, c.write_new_volume.ensures.same, c.in-Ok.ensures.counted)
    (new_image_seen c.args.model c.args.cylinders (g.S.ImageStore.origin c.args.store) (g.S.ImageStore.failures c.args.store))
