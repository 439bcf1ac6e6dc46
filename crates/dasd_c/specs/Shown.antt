-- What C is shown in structs of the header: what came of a run, a track, a file.
use Rattle.std.specs.Prelude.{◌≡◌, ◌/◌, ◌%◌, ℤ, pos, ℕ, Bool, true, false, List, length, Option, Some, None}
use Rattle.ckd_image.specs.Image.{ImageState, IsFileAt}
use Rattle.s360_channel.specs.Channel.{ChannelState}
use Rattle.s360_channel.specs.declared.view.RunOn.{RunOn}
use Rattle.s360_channels.specs.Asked.{image_at}
use Rattle.s360_channels.specs.Channels.{ChannelsState, channel_at}
use Rattle.dasd_subsystem.specs.Shown.{numbers_of}
use Rattle.subsystem_calls.specs.Codes.{no_channel, no_drive, no_file, program_runs}
use Rattle.subsystem_calls.specs.Shown.{WorksAt}
use Rattle.dasd_c.specs.declared.showing.File.{File}
use Rattle.dasd_c.specs.declared.turns.Ran.{Ran}
use Rattle.dasd_c.specs.declared.turns.Track.{Track}

-- what came of a run
abbrev pub ran_shown : RunOn → Ran
ran_shown r = let n = numbers_of r.subchannel in record { units = r.units; subchannel = n.0; device = n.1; asked = n.2; reserved = 0 }

-- the track that could not be saved, or the one that stood there
abbrev pub track_shown : Option (ℕ × ℕ × ℕ) → Track → Track
track_shown (Some t) before = record { address = t.0; cylinder = t.1; head = t.2 }
track_shown None before = before

-- A file that holds these bytes is shown, by how many they are; or there is no such file, and nothing is.
abbrev pub ShowsContent : Option (List ℕ) → (code : ℤ) → (before shown : File) → Type 0
ShowsContent (Some bytes) code before shown = (code ≡ pos 0) × (shown.len ≡ length bytes)
ShowsContent None code before shown = (code ≡ no_file) × (shown ≡ before)

-- The file of an image at a place among its files; or there is no drive that holds one,
abbrev pub ShowsFileIn : Option ImageState → (place : ℕ) → (code : ℤ) → (before shown : File) → Type 0
ShowsFileIn (Some image) place code before shown = (content : Option (List ℕ)) × IsFileAt image place content × ShowsContent content code before shown
ShowsFileIn None place code before shown = (code ≡ no_drive) × (shown ≡ before)

-- or there is no such channel,
abbrev pub ShowsFileAt : Option ChannelState → (device place : ℕ) → (code : ℤ) → (before shown : File) → Type 0
ShowsFileAt (Some c) device place code before shown = ShowsFileIn (image_at device (Some c)) place code before shown
ShowsFileAt None device place code before shown = (code ≡ no_channel) × (shown ≡ before)

-- or the drive's program runs.
abbrev pub ShowsUnless : (working : Bool) → Option ChannelState → (device place : ℕ) → (code : ℤ) → (before shown : File) → Type 0
ShowsUnless true o device place code before shown = (code ≡ program_runs) × (shown ≡ before)
ShowsUnless false o device place code before shown = ShowsFileAt o device place code before shown

-- A file of the drive under an address, by its place among those of the drive's volume.
pub record ShowsFileOf (s : ChannelsState) (address place : ℕ) (code : ℤ) (before shown : File) : Type 0 where
  pub working : Bool
  pub works : WorksAt working s.storage (address % 256) (channel_at (address / 256) s)
  pub shows : ShowsUnless working (channel_at (address / 256) s) (address % 256) place code before shown
