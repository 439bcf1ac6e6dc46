-- The file of an image whose tracks are told of.
use Rattle.std.proofs.Common.{◌≡◌, ℤ, ℕ, Some, subst}
use Rattle.ckd_image.specs.Image.{ImageState, IsFileAt}
use Rattle.dasd_files.specs.Files.{FileState, IsFile}
use Rattle.dasd_files.specs.declared.tracks.ShownTrack.{ShownTrack}
use Rattle.dasd_files.specs.Tracks.{TellsNext}
use Rattle.subsystem_calls.specs.Saving.{TellsNextAmong}

-- its slots are as long as the image's geometry says
pub next_among : (image : ImageState) (place since : ℕ) (code : ℤ) (before shown : ShownTrack) (f : FileState) (size : ℕ)
    → IsFileAt image place (Some f.content) → IsFile f → size ≡ image.geometry.track_size → TellsNext f size since code before shown
    → TellsNextAmong image place since code before shown
next_among image place since code before shown f size there is same tells = record {
  file = Some f;
  is_there = there;
  tells = (is, subst (λ n. TellsNext f n since code before shown) same tells);
}
