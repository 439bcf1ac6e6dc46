-- What is saved of a channel between two programs, beside main storage and the volumes; and a channel that is put back so.
use Rattle.std.specs.Prelude.{ℕ, ◌+◌, ◌-◌, ◌==◌, ◌&&◌, ◌++◌, List, [], ◌∷◌, map, length, replicate, filter, position, Bool, true, false, not, is_some}
use Rattle.std.specs.Prelude.{Option, Some, None, option_map, if◌then◌else◌}
use Rattle.s360_words.specs.declared.words.Csw.{Csw}
use Rattle.s360_words.specs.declared.flags.TheConstants.UnitStatus.{CHANNEL_END, DEVICE_END}
use Rattle.ckd_track.specs.declared.geometries.Geometry.{Geometry}
use Rattle.ckd_drive.specs.Work.{has_track}
use Rattle.s360_laws.specs.Status.{tells}
use Rattle.s360_laws.specs.Machine as machine
use Rattle.s360_laws.specs.Machine.{Device, Machine}
use Rattle.s360_laws.specs.Soundness.{arm_owes}
use Rattle.s360_laws.specs.declared.arm.Arm.{Arm}
use Rattle.s360_laws.specs.declared.arm.Arm.TheVariants.{AtRest, InMotion, Arrived}
use Rattle.attached_drives.specs.Drives.{AttachedState, device_of, is_at}
use Rattle.s360_channel.specs.Restores.{as_saved}
use Rattle.attached_drives.specs.Saved.{attached_as_saved, drives_saved, entry, drives_back, are_saved, have_tracks}
use Rattle.s360_channel.specs.Selector.{SelectorState}
use Rattle.attached_drives.specs.declared.drives_saved.SavedDrive.{SavedDrive}
use Rattle.s360_channel.specs.declared.saving.SavedChannel.{SavedChannel}
use Rattle.s360_channel.specs.declared.faults.SavedFault.{SavedFault}
use Rattle.s360_channel.specs.declared.faults.SavedFault.TheVariants.{ProgramRuns, OtherDrives, NoSuchTrack, NotOwed}
use Rattle.s360_channel.specs.declared.subchannel.Subchannel.{Subchannel}
use Rattle.s360_channel.specs.declared.subchannel.Subchannel.TheVariants.{Idle, Working, Pending}

-- What is saved.

-- the channel status word that pends and its device, if one does; nothing is saved while a program runs
abbrev pub pending_saved : Subchannel → Option (Option (ℕ × Csw))
pending_saved Idle = Some None
pending_saved (Working place r) = None
pending_saved (Pending device csw) = Some (Some (device, csw))

-- all that is saved of a channel
abbrev pub saved_of : SelectorState → Option SavedChannel
saved_of c = option_map (λ pending. record { pending = pending; drives = drives_saved (map device_of c.drives) }) (pending_saved c.subchannel)

-- What is put back.

-- the subchannel: available, or this word pends
abbrev pub subchannel_back : Option (ℕ × Csw) → Subchannel
subchannel_back None = Idle
subchannel_back (Some p) = Pending p.0 p.1

-- the channel as it was saved
abbrev pub put_back : SavedChannel → SelectorState → SelectorState
put_back saved c = record c { subchannel = subchannel_back saved.pending; drives = drives_back saved.drives c.drives }

-- The same of a machine.

-- a device as it was saved, if it was
abbrev pub device_back : Option SavedDrive → Device → Device
device_back None d = d
device_back (Some saved) d = as_saved saved d

-- the subchannel of a machine: idle, or with the channel status word that pends
abbrev pub machine_subchannel : Option (ℕ × Csw) → machine.Subchannel
machine_subchannel None = machine.Idle
machine_subchannel (Some p) = machine.Pending p.0 p.1

-- the machine whose subchannel and devices are as they were saved
abbrev pub machine_back : SavedChannel → Machine → Machine
machine_back saved m = record m {
  subchannel = machine_subchannel saved.pending;
  devices = map (λ d. device_back (entry d.device saved.drives) d) m.devices;
}

-- When it is put back.

-- whether a program runs
abbrev pub is_working : Subchannel → Bool
is_working (Working place r) = true
is_working s = false

-- the drives are those that were saved: each of them was, and there are as many
abbrev pub are_same_drives : List (Option (ℕ × SavedDrive)) → List AttachedState → Bool
are_same_drives entries us = (length (filter is_some entries) == length us) && are_saved entries us

-- whether an arm owes a device end
abbrev pub owes : Arm → Bool
owes AtRest = false
owes InMotion = true
owes Arrived = true

-- a channel status word is an ending beside an arm: it has channel end; and either it has the device end, or the arm owes it
abbrev pub is_ending : Csw → Arm → Bool
is_ending csw arm = tells csw.unit CHANNEL_END && ((if tells csw.unit DEVICE_END then 1 else 0) + arm_owes arm == 1)

-- beside a drive as it was saved, if it was
abbrev pub is_ending_of : Csw → Option SavedDrive → Bool
is_ending_of csw None = false
is_ending_of csw (Some saved) = is_ending csw saved.arm

-- the word that pends is that of an attached drive, and its ending
abbrev pub may_pend : Option (ℕ × Csw) → List (Option (ℕ × SavedDrive)) → List AttachedState → Bool
may_pend None entries us = true
may_pend (Some p) entries us = is_some (position (is_at p.0) us) && is_ending_of p.1 (entry p.0 entries)

-- Why a channel is not put back, if it is not, in this order: a program runs; its drives are not those that were saved; a volume has no
-- such track; the word that pends is no ending that is owed.
abbrev pub why_not_back : SavedChannel → SelectorState → Option SavedFault
why_not_back saved c =
    if is_working c.subchannel then Some ProgramRuns
    else (if not (are_same_drives saved.drives c.drives) then Some OtherDrives
    else (if not (have_tracks saved.drives c.drives) then Some NoSuchTrack
    else (if not (may_pend saved.pending saved.drives c.drives) then Some NotOwed else None)))
