-- What C is shown of channels and drives.
use Rattle.std.specs.Prelude.{◌≡◌, ◌==◌, ℤ, pos, ℕ, Bool, false, Option, Some, None}
use Rattle.s360_words.specs.Storage.{Storage}
use Rattle.s360_laws.specs.Machine.{Machine}
use Rattle.s360_channel.specs.Channel.{ChannelState, StandsFor}
use Rattle.s360_channel.specs.Shares.{with_storage}
use Rattle.s360_channel.specs.Packs.{runs_at}
use Rattle.s360_channel.specs.Views.{view_of}
use Rattle.s360_channel.specs.declared.view.SubchannelView.{SubchannelView}
use Rattle.s360_channel.specs.declared.view.SubchannelView.TheVariants.{Working}
use Rattle.s360_channels.specs.Asked.{drive_at}
use Rattle.attached_drives.specs.declared.view.DriveView.{DriveView}
use Rattle.dasd_subsystem.specs.declared.shown.ShownDrive.{ShownDrive}
use Rattle.dasd_subsystem.specs.declared.shown.ShownChannel.{ShownChannel}
use Rattle.dasd_subsystem.specs.Shown.{ShowsState, drive_shown}
use Rattle.subsystem_calls.specs.Codes.{no_channel, no_drive}

-- A drive is shown as it is seen; or there is none, and nothing is.
abbrev pub ShowsSeen : Option DriveView → (code : ℤ) → (before shown : ShownDrive) → Type 0
ShowsSeen (Some seen) code before shown = (code ≡ pos 0) × (shown ≡ drive_shown seen)
ShowsSeen None code before shown = (code ≡ no_drive) × (shown ≡ before)

-- The drive of a channel under a device address is shown; or there is no such channel, or no such drive, and nothing is.
abbrev pub ShowsDriveOf : Option ChannelState → (device : ℕ) → (code : ℤ) → (before shown : ShownDrive) → Type 0
ShowsDriveOf (Some c) device code before shown = ShowsSeen (drive_at device (Some c)) code before shown
ShowsDriveOf None device code before shown = (code ≡ no_channel) × (shown ≡ before)

-- A channel is shown, as every machine shows itself that it stands for over this storage; or there is none with this number, and nothing
-- is.
abbrev pub ShowsStateOf : Option ChannelState → Storage → (code : ℤ) → (before shown : ShownChannel) → Type 0
ShowsStateOf (Some c) s code before shown = (code ≡ pos 0) × ((m : Machine) → StandsFor (with_storage c s) m → ShowsState shown (view_of m))
ShowsStateOf None s code before shown = (code ≡ no_channel) × (shown ≡ before)

-- whether a subchannel works for a device
abbrev pub is_working : (device : ℕ) → SubchannelView → Bool
is_working device (Working d asked) = d == device
is_working device seen = false

-- whether the program that runs on a channel is a device's, over this storage; where there is no channel, none runs
abbrev pub WorksAt : Bool → Storage → (device : ℕ) → Option ChannelState → Type 0
WorksAt answer s device (Some c) = (m : Machine) → StandsFor (with_storage c s) m → answer ≡ runs_at device m.subchannel
WorksAt answer s device None = answer ≡ false
