use Rattle.std.proofs.Common.{◌≡◌, sym, subst}
use Rattle.std.specs.Prelude.{Ok}
use Rattle.ckd_image.specs.Files.{each, listed, HoldTracks}
use Rattle.ckd_image.specs.Header.{mount_of}
use Rattle.ckd_image.proofs.images.Image.copy.Goals as goal

-- the copies of the files hold what the files do
pub invariant_of-result : goal.invariant_of-result
invariant_of-result g c =
    subst (λ files. (mount_of (each g.S.ImageStore.content (listed files)) ≡ Ok c.self.inside.geometry)
    × HoldTracks g.S.ImageStore.content c.self.inside.geometry.track_size (listed files) c.self.inside.tracks)
    (sym c.in_ok-copy_stores.ensures) c.self.invariant
