use Rattle.std.proofs.Common.{◌≡◌, ◌∙◌, Ok, [], ◌∷◌, ap, sym}
use Rattle.ckd_image.specs.Header.{mount_of, then_with, volume_of}
use Rattle.ckd_image.proofs.MountLemmas.{one_refused}
use Rattle.ckd_image.proofs.ImageLemmas.{holds_slots}
use Rattle.ckd_image.proofs.images.Image.mount.Goals as goal

pub returns-in-Ok-volume_of_files-clause-holds : goal.returns-in-Ok-volume_of_files-clause-holds
returns-in-Ok-volume_of_files-clause-holds g c =
    let mounts : mount_of (g.S.ImageStore.content c.args.store ∷ []) ≡ Ok c.in-Ok-volume_of_files.geometry =
    ap (λ o. then_with (then_with o (λ h. Ok (h ∷ []))) volume_of) c.in-Ok.ensures.ok ∙ sym c.volume_of_files.ensures
    ∙ c.in-Ok-volume_of_files.is in
    rw (c.image_of_one.ensures, c.read_header.ensures.kept) (holds_slots c.in-Ok-volume_of_files.geometry
    (g.S.ImageStore.content c.args.store ∷ []) mounts)

pub returns-in-Err-volume_of_files-clause-refused : goal.returns-in-Err-volume_of_files-clause-refused
returns-in-Err-volume_of_files-clause-refused g c =
    one_refused (g.S.ImageStore.content c.args.store) (g.S.ImageStore.failures c.args.store)
    (g.S.ImageStore.failures c.read_header.new.store) c.in-Ok.header c.in-Err-volume_of_files.fault c.in-Ok.ensures.ok
    (sym c.volume_of_files.ensures ∙ c.in-Err-volume_of_files.is) c.in-Ok.ensures.none
