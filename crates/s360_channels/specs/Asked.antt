-- What is asked of a channel over the shared storage: whether a drive is attached, what Test Channel answers, whether an interruption would be taken, what it, its
-- program and its drives are shown as.
use Rattle.std.specs.Prelude.{◌≡◌, ◌/◌, ◌%◌, ℕ, Bool, false, Option, Some, None, option_map}
use Rattle.s360_words.specs.Storage.{Storage}
use Rattle.ckd_drive.specs.Work.{DriveState}
use Rattle.ckd_image.specs.Image.{ImageState}
use Rattle.s360_laws.specs.Events.{Answer, WithCode, Tch}
use Rattle.s360_laws.specs.Machine.{Machine}
use Rattle.s360_laws.specs.declared.condition.ConditionCode.TheVariants.{Three}
use Rattle.s360_channel.specs.Attaches.{is_taken}
use Rattle.s360_channel.specs.Calls.{DoesQuietly}
use Rattle.s360_channel.specs.Channel.{ChannelState, StandsFor}
use Rattle.attached_drives.specs.Drives.{device_of}
use Rattle.s360_channel.specs.Shares.{with_storage}
use Rattle.s360_channel.specs.Views.{attached_with, interrupts, view_of}
use Rattle.attached_drives.specs.Shown.{drive_seen}
use Rattle.s360_channel.specs.Watched.{ShowsDriveAtWork, ShowsProgram}
use Rattle.s360_channels.specs.Channels.{ChannelsState, channel_at}
use Rattle.attached_drives.specs.declared.view.DriveView.{DriveView}
use Rattle.s360_channel.specs.declared.view.View.{View}
use Rattle.s360_channel.specs.declared.view.Watched.{Watched}

-- whether a channel has a drive with this low byte of its address
abbrev pub has_drive : (device : ℕ) → Option ChannelState → Bool
has_drive device None = false
has_drive device (Some c) = is_taken device c

-- whether a drive is attached under an address, at the channel of its high byte
abbrev pub is_attached : (address : ℕ) → ChannelsState → Bool
is_attached address s = has_drive (address % 256) (channel_at (address / 256) s)

-- Test Channel, asked of a channel over the shared storage
abbrev pub Tests : Answer → Storage → ChannelState → Type 0
Tests answer s c = (m : Machine) → StandsFor (with_storage c s) m → DoesQuietly Tch m answer (with_storage c s)

-- and where there may be none
abbrev pub TestsAt : Answer → Storage → Option ChannelState → Type 0
TestsAt answer s None = answer ≡ WithCode Three
TestsAt answer s (Some c) = Tests answer s c

-- whether an interruption pends, asked of a channel over the shared storage
abbrev pub Interrupts : Bool → Storage → ChannelState → Type 0
Interrupts answer s c = (m : Machine) → StandsFor (with_storage c s) m → answer ≡ interrupts m

-- the same where there may be no channel
abbrev pub InterruptsAt : Bool → Storage → Option ChannelState → Type 0
InterruptsAt answer s None = answer ≡ false
InterruptsAt answer s (Some c) = Interrupts answer s c

-- A channel is shown as the machine shows itself that it stands for, over the shared storage.
abbrev pub Shows : View → Storage → ChannelState → Type 0
Shows view s c = (m : Machine) → StandsFor (with_storage c s) m → view ≡ view_of m

-- the same where there may be no channel
abbrev pub ShowsAt : Option View → Storage → Option ChannelState → Type 0
ShowsAt None s None = Unit {0}
ShowsAt (Some view) s (Some c) = Shows view s c
ShowsAt view s c = ⊥

-- What is seen of a channel's program is read off the run of each machine that it stands for, over the shared storage; without such a
-- channel nothing is seen.
abbrev pub ShowsProgramAt : Option Watched → Storage → Option ChannelState → Type 0
ShowsProgramAt seen s None = seen ≡ None
ShowsProgramAt seen s (Some c) = (m : Machine) → StandsFor (with_storage c s) m → ShowsProgram m seen

-- and so is the drive of that program
abbrev pub ShowsDriveAtWorkAt : Option DriveState → Storage → Option ChannelState → Type 0
ShowsDriveAtWorkAt drive s None = drive ≡ None
ShowsDriveAtWorkAt drive s (Some c) = (m : Machine) → StandsFor (with_storage c s) m → ShowsDriveAtWork m drive

-- what is known of a channel's drive without a channel program
abbrev pub drive_at : (device : ℕ) → Option ChannelState → Option DriveView
drive_at device None = None
drive_at device (Some c) = option_map (λ u. drive_seen (device_of u)) (attached_with device c.drives)

-- the image of a channel's drive
abbrev pub image_at : (device : ℕ) → Option ChannelState → Option ImageState
image_at device None = None
image_at device (Some c) = option_map (λ u. u.drive.image) (attached_with device c.drives)
