use Rattle.ckd_image.specs.Files.{each, listed}
use Rattle.ckd_image.proofs.MountLemmas.{mount_fits, size_some}
use Rattle.ckd_image.proofs.images.image_of.Goals as goal

pub count_tracks-tracks-requires : goal.count_tracks-tracks-requires
count_tracks-tracks-requires g c =
    let files = each g.S.ImageStore.content (listed c.args.stores) in
    record { some = size_some files c.args.geometry c.requires; whole = (mount_fits files c.args.geometry c.requires).whole }
