-- Drives that are taken off a channel, and packs that are changed.
use Rattle.std.specs.Prelude.{◌≡◌, ◌-◌, ℕ, Bool, true, false, not, ◌==◌, ◌&&◌, Option, Some, None, filter, option_map, slice_get, slice_set, nat_lt}
use Rattle.std.specs.Prelude.{if◌then◌else◌}
use Rattle.std.specs.List.{remove}
use Rattle.ckd_command.specs.Drive.{Volume, first_drive}
use Rattle.ckd_image.specs.Image.{ImageState}
use Rattle.ckd_track.specs.declared.model.DriveModel.{DriveModel}
use Rattle.ckd_track.specs.declared.model.DriveModel.TheVariants.{D2311, D2314}
use Rattle.ckd_track.specs.declared.geometries.Geometry.{Geometry}
use Rattle.s360_laws.specs.Machine as machine
use Rattle.s360_laws.specs.Machine.{Machine, Device, device_at, with_device}
use Rattle.s360_laws.specs.declared.arm.Arm.{Arm}
use Rattle.s360_laws.specs.declared.arm.Arm.TheVariants.{AtRest}
use Rattle.s360_channel.specs.Channel.{ChannelState, StandsFor}
use Rattle.attached_drives.specs.Drives.{AttachedState, new_attached, fits_drive}
use Rattle.s360_channel.specs.declared.faults.DetachFault.{DetachFault}
use Rattle.s360_channel.specs.declared.faults.DetachFault.TheVariants.{NoDrive, ProgramRuns, EndingPends, DeviceEndOwed}
use Rattle.s360_channel.specs.declared.faults.ExchangeFault.{ExchangeFault}
use Rattle.s360_channel.specs.declared.faults.ExchangeFault.TheVariants.{Held, OtherPack}
use Rattle.s360_channel.specs.declared.subchannel.Subchannel.{Subchannel}
use Rattle.s360_channel.specs.declared.subchannel.Subchannel.TheVariants.{Working, Pending}

-- whether the program that runs is a device's, and whether the channel status word that pends is
abbrev pub runs_at : (device : ℕ) → machine.Subchannel → Bool
runs_at device (machine.Working d script) = d == device
runs_at device s = false

-- the channel status word that pends is that of a device's program
abbrev pub pends_for : (device : ℕ) → machine.Subchannel → Bool
pends_for device (machine.Pending d csw) = d == device
pends_for device s = false

-- the arm neither moves nor owes a device end
abbrev pub is_at_rest : Arm → Bool
is_at_rest AtRest = true
is_at_rest arm = false

-- Why a device of a machine can't leave it, in this order: there is none with this address; its program
-- runs; its channel status word pends; its arm moves, or owes its device end.
abbrev pub why_of : (device : ℕ) → machine.Subchannel → Option Device → Option DetachFault
why_of device s None = Some NoDrive
why_of device s (Some d) =
    if runs_at device s then Some ProgramRuns
    else (if pends_for device s then Some EndingPends
    else (if is_at_rest d.arm then None else Some DeviceEndOwed))

-- why the device of a machine may not be taken off, if it may not
abbrev pub why_stays : (device : ℕ) → Machine → Option DetachFault
why_stays device m = why_of device m.subchannel (device_at m device)

-- the machine without a device
abbrev pub without_device : (device : ℕ) → Machine → Machine
without_device device m = record m { devices = filter (λ d. not (d.device == device)) m.devices }

-- what an image holds
abbrev pub volume_in : ImageState → Volume
volume_in i = record { geometry = i.geometry; slots = i.slots }

-- The image that is given back holds the volume of the machine's device.
pub record GivesBack (device : ℕ) (image : ImageState) (m : Machine) : Type 0 where
  pub attached : Device
  pub is_there : device_at m device ≡ Some attached
  pub volume : attached.drive.volume ≡ volume_in image

-- The channel's side.

-- the place of the drive whose program runs, behind one that is taken out
abbrev pub moved_up : (place : ℕ) → Subchannel → Subchannel
moved_up place (Working p r) = Working (if nat_lt place p then p - 1 else p) r
moved_up place s = s

-- the channel without the drive at a place
abbrev pub without_place : (place : ℕ) → ChannelState → ChannelState
without_place place c = record c { subchannel = moved_up place c.subchannel; drives = remove c.drives place }

-- whether the program that runs is that of the drive at a place, and whether the word that pends is that of an address
abbrev pub works_at : (place : ℕ) → Subchannel → Bool
works_at place (Working p r) = p == place
works_at place s = false

-- the channel status word that pends is that of a drive's program
abbrev pub waits_for : (device : ℕ) → Subchannel → Bool
waits_for device (Pending d csw) = d == device
waits_for device s = false

-- the drive at a place has this address, and owes nothing
pub record IsFree (device place : ℕ) (c : ChannelState) : Type 0 where
  pub attached : AttachedState
  pub is_there : slice_get c.drives place ≡ Some attached
  pub same_device : attached.device ≡ device
  pub runs : works_at place c.subchannel ≡ false
  pub pends : waits_for device c.subchannel ≡ false
  pub arm : attached.arm ≡ AtRest

-- A drive is taken off: it was free, the machine has all that it had but the device, and the image is the drive's and holds its
-- volume.
pub record Detaches (device : ℕ) (m : Machine) (image : ImageState) (old new : ChannelState) : Type 0 where
  pub free : why_stays device m ≡ None
  pub place : ℕ
  pub is_free : IsFree device place old
  pub becomes : new ≡ without_place place old
  pub stands : StandsFor new (without_device device m)
  pub same_image : image ≡ is_free.attached.drive.image
  pub gives_back : GivesBack device image m

-- Packs that are changed.

-- the same of a machine's device, if there is one with this address
abbrev pub fits_at : (device : ℕ) → ImageState → Machine → Option Bool
fits_at device image m = option_map (λ d. fits_drive d.drive.volume.geometry image.geometry) (device_at m device)

-- the machine whose device has another pack: a new drive
abbrev pub with_pack : (device : ℕ) → ImageState → Machine → Machine
with_pack device image m = with_device device (λ d. record d { arm = AtRest; drive = first_drive (volume_in image) }) m

-- Why it has not, in this order: the drive could not be taken off; the pack does not fit.
abbrev pub WhyHeld : (device : ℕ) → ImageState → Machine → ExchangeFault → Type 0
WhyHeld device image m (Held why) = why_stays device m ≡ Some why
WhyHeld device image m OtherPack = (why_stays device m ≡ None) × (fits_at device image m ≡ Some false)

-- The pack is changed: the drive was free and the pack fits; the drive is new, over this image; the image that is given back is
-- that of the drive before, and holds its volume.
pub record Exchanges (device : ℕ) (m : Machine) (image before : ImageState) (old new : ChannelState) : Type 0 where
  pub free : why_stays device m ≡ None
  pub fits : fits_at device image m ≡ Some true
  pub place : ℕ
  pub is_free : IsFree device place old
  pub becomes : new ≡ record old { drives = slice_set old.drives place (new_attached device image) }
  pub stands : StandsFor new (with_pack device image m)
  pub same_image : before ≡ is_free.attached.drive.image
  pub gives_back : GivesBack device before m
