-- What is given back at the end.
use Rattle.std.specs.Prelude.{◌≡◌, ◌-◌, ◌++◌, ℕ, List, map, length, replicate, Option, Some, None}
use Rattle.ckd_image.specs.Image.{ImageState}
use Rattle.s360_words.specs.Storage.{Storage}
use Rattle.s360_laws.specs.Events.{Reset, WasReset}
use Rattle.s360_laws.specs.Machine.{Machine}
use Rattle.s360_channel.specs.Calls.{Does, CallsAtMost}
use Rattle.s360_channel.specs.Channel.{ChannelState}
use Rattle.attached_drives.specs.Drives.{AttachedState, images_of}

-- The channel is reset first; then all is given back, each image with the slots of its drive's volume.
pub record Finishes (m : Machine) (old : ChannelState) (storage : Storage) (images : List (Option (ℕ × ImageState)))
    (unsaved : Option (ℕ × ℕ × ℕ)) : Type 0 where
  pub last : ChannelState
  pub reset : Does Reset m (WasReset unsaved) old last
  pub calls : CallsAtMost 1 old last
  pub same_storage : storage ≡ last.storage
  pub same_images : images ≡ images_of last.drives
  pub volumes : map (λ u. u.drive.image.slots) last.drives ≡ map (λ u. u.drive.state.volume.slots) last.drives
