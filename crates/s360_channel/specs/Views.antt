-- What a channel shows of itself: the machine's subchannel and arms.
use Rattle.std.specs.Prelude.{◌≡◌, ℕ, ◌-◌, ◌++◌, List, map, length, replicate, Bool, true, false, Option, Some, None, is_some, option_map, position, slice_get}
use Rattle.std.specs.Prelude.{nat_lt, if◌then◌else◌}
use Rattle.ckd_image.specs.Image.{ImageState}
use Rattle.s360_words.specs.Storage.{Storage, key_at}
use Rattle.s360_laws.specs.Events.{Answer, Interrupt, Interrupted}
use Rattle.ckd_sense.specs.SenseBytes.{sense_bytes}
use Rattle.s360_laws.specs.Machine as machine
use Rattle.s360_laws.specs.Machine.{Machine, Device, asked_by, device_at, react, run_of}
use Rattle.s360_laws.specs.declared.arm.Arm.{Arm}
use Rattle.attached_drives.specs.Drives.{AttachedState, is_at}
use Rattle.attached_drives.specs.Shown.{drive_seen, drives_seen}
use Rattle.s360_channel.specs.Packs.{runs_at, volume_in}
use Rattle.s360_channel.specs.declared.view.SubchannelView.{SubchannelView}
use Rattle.s360_channel.specs.declared.view.SubchannelView.TheVariants.{Idle, Working, Pending}
use Rattle.s360_channel.specs.declared.view.View.{View}
use Rattle.attached_drives.specs.declared.view.DriveView.{DriveView}

-- the subchannel as it is shown: whether a program-controlled interruption is asked for, and the word that pends
abbrev pub subchannel_seen : Machine → machine.Subchannel → SubchannelView
subchannel_seen m machine.Idle = Idle
subchannel_seen m (machine.Working device script) = Working device (is_some (asked_by (run_of m device script)))
subchannel_seen m (machine.Pending device csw) = Pending device csw

-- the drive with this address, if there is one
abbrev pub attached_in : Option ℕ → List AttachedState → Option AttachedState
attached_in None us = None
attached_in (Some place) us = slice_get us place

-- the drive that is attached with this address, if there is one
abbrev pub attached_with : (device : ℕ) → List AttachedState → Option AttachedState
attached_with device us = attached_in (position (is_at device) us) us

-- A drive whose program does not run is shown as the machine has it, and its image holds its volume.
abbrev pub ShowsDrive : (device : ℕ) → Machine → Option DriveView → Type 0
ShowsDrive device m seen = runs_at device m.subchannel ≡ false → seen ≡ option_map drive_seen (device_at m device)

-- an image holds the volume of a device whose program does not run
abbrev pub ShowsVolume : (device : ℕ) → Machine → Option ImageState → Type 0
ShowsVolume device m image =
    runs_at device m.subchannel ≡ false
    → option_map volume_in image ≡ option_map (λ d. d.drive.volume) (device_at m device)

-- the key of the block that has an address
abbrev pub key_in : Storage → (at : ℕ) → Option ℕ
key_in s at = if nat_lt at (length s.bytes) then Some (key_at s at) else None

-- whether an interruption would be taken now
abbrev pub is_interruption : Answer → Bool
is_interruption (Interrupted (Some told)) = true
is_interruption answer = false

-- the machine's answer to an interruption is one that is taken
abbrev pub interrupts : Machine → Bool
interrupts m = is_interruption (react Interrupt None m).0

-- all that a machine shows of itself
abbrev pub view_of : Machine → View
view_of m = record { subchannel = subchannel_seen m m.subchannel; drives = drives_seen m.devices }
