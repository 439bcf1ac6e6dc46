-- What C is told of tracks that were written.
use Rattle.std.specs.Prelude.{◌≡◌, ◌/◌, ◌%◌, ℤ, ℕ, Bool, true, false, Option, Some, None, option_map}
use Rattle.ckd_image.specs.Image.{ImageState, IsFileAt}
use Rattle.s360_channels.specs.Channels.{ChannelsState, channel_at}
use Rattle.s360_channels.specs.Asked.{image_at}
use Rattle.s360_channel.specs.Channel.{ChannelState}
use Rattle.dasd_files.specs.Files.{FileState, IsFile}
use Rattle.dasd_files.specs.Tracks.{TellsNext}
use Rattle.dasd_files.specs.declared.tracks.ShownTrack.{ShownTrack}
use Rattle.subsystem_calls.specs.Codes.{no_channel, no_drive, no_file, program_runs}
use Rattle.subsystem_calls.specs.Shown.{WorksAt}

-- The next track is one of this file; or there is no such file, and nothing is shown.
abbrev pub TellsNextOfFile : Option FileState → (size since : ℕ) → (code : ℤ) → (before shown : ShownTrack) → Type 0
TellsNextOfFile (Some f) size since code before shown = IsFile f × TellsNext f size since code before shown
TellsNextOfFile None size since code before shown = (code ≡ no_file) × (shown ≡ before)

-- The file is the one at a place among those of an image,
pub record TellsNextAmong (image : ImageState) (place since : ℕ) (code : ℤ) (before shown : ShownTrack) : Type 0 where
  pub file : Option FileState
  pub is_there : IsFileAt image place (option_map (λ f. f.content) file)
  pub tells : TellsNextOfFile file image.geometry.track_size since code before shown

-- or there is no drive that holds one,
abbrev pub TellsNextIn : Option ImageState → (place since : ℕ) → (code : ℤ) → (before shown : ShownTrack) → Type 0
TellsNextIn (Some image) place since code before shown = TellsNextAmong image place since code before shown
TellsNextIn None place since code before shown = (code ≡ no_drive) × (shown ≡ before)

-- or there is no such channel,
abbrev pub TellsNextAt : Option ChannelState → (device place since : ℕ) → (code : ℤ) → (before shown : ShownTrack) → Type 0
TellsNextAt (Some c) device place since code before shown = TellsNextIn (image_at device (Some c)) place since code before shown
TellsNextAt None device place since code before shown = (code ≡ no_channel) × (shown ≡ before)

-- or the drive's program runs.
abbrev pub TellsNextUnless : (working : Bool) → Option ChannelState → (device place since : ℕ) → (code : ℤ) → (before shown : ShownTrack) → Type 0
TellsNextUnless true o device place since code before shown = (code ≡ program_runs) × (shown ≡ before)
TellsNextUnless false o device place since code before shown = TellsNextAt o device place since code before shown

-- The next track of a file of the drive under an address, by its place among those of the drive's volume.
pub record TellsNextOf (s : ChannelsState) (address place since : ℕ) (code : ℤ) (before shown : ShownTrack) : Type 0 where
  pub working : Bool
  pub works : WorksAt working s.storage (address % 256) (channel_at (address / 256) s)
  pub tells : TellsNextUnless working (channel_at (address / 256) s) (address % 256) place since code before shown
