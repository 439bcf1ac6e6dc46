-- A channel that becomes what one was between two programs.
use Rattle.std.specs.Prelude.{◌≡◌, ℕ, ◌+◌, ◌==◌, ◌&&◌, Bool, true, false, Option, Some, None, option_map, slice_set, if◌then◌else◌}
use Rattle.s360_words.specs.declared.words.Csw.{Csw}
use Rattle.s360_words.specs.declared.flags.TheConstants.UnitStatus.{CHANNEL_END, DEVICE_END}
use Rattle.ckd_drive.specs.Work.{has_track, restored}
use Rattle.s360_laws.specs.Status.{tells}
use Rattle.s360_laws.specs.Machine as machine
use Rattle.s360_laws.specs.Machine.{Machine, Device, device_at, with_device, with_subchannel}
use Rattle.s360_laws.specs.Soundness.{device_owes}
use Rattle.attached_drives.specs.Saved.{attached_as_saved}
use Rattle.s360_channel.specs.Channel.{ChannelState, StandsFor}
use Rattle.attached_drives.specs.Drives.{AttachedState}
use Rattle.s360_channel.specs.Packs.{IsFree, why_stays}
use Rattle.attached_drives.specs.declared.drives_saved.SavedDrive.{SavedDrive}
use Rattle.s360_channel.specs.declared.faults.RestoreFault.{RestoreFault}
use Rattle.s360_channel.specs.declared.faults.RestoreFault.TheVariants.{Held, NoSuchTrack}
use Rattle.s360_channel.specs.declared.faults.PendingFault.{PendingFault}
use Rattle.s360_channel.specs.declared.faults.PendingFault.TheVariants.{NotIdle, NotOwed}

-- Drives.

-- a device as it was saved: its arm, where it stands, the head that is selected, and its sense bytes
abbrev pub as_saved : SavedDrive → Device → Device
as_saved saved d = record d { arm = saved.arm; drive = record d.drive { cylinder = saved.cylinder; head = saved.head; sense = saved.sense } }

-- the machine whose device is as it was saved
abbrev pub with_saved : (device : ℕ) → SavedDrive → Machine → Machine
with_saved device saved m = with_device device (as_saved saved) m

-- whether the volume of a machine's device, if there is one with this address, has the track where it was saved
abbrev pub has_saved_track : (device : ℕ) → SavedDrive → Machine → Option Bool
has_saved_track device saved m =
    option_map (λ d. has_track d.drive.volume.geometry saved.cylinder saved.head) (device_at m device)

-- A drive is as it was saved: it was free, and its volume has the track; the machine has all that it had, but this device as it was saved.
pub record RestoresDrive (device : ℕ) (saved : SavedDrive) (m : Machine) (old new : ChannelState) : Type 0 where
  pub free : why_stays device m ≡ None
  pub has_its_track : has_saved_track device saved m ≡ Some true
  pub place : ℕ
  pub is_free : IsFree device place old
  pub becomes : new ≡ record old { drives = slice_set old.drives place (attached_as_saved saved is_free.attached) }
  pub stands : StandsFor new (with_saved device saved m)

-- Why it is not, in this order: it could not be taken off; its volume has no such track.
abbrev pub WhyNotRestored : (device : ℕ) → SavedDrive → Machine → RestoreFault → Type 0
WhyNotRestored device saved m (Held why) = why_stays device m ≡ Some why
WhyNotRestored device saved m NoSuchTrack = (why_stays device m ≡ None) × (has_saved_track device saved m ≡ Some false)

-- Endings.

-- whether this channel status word may pend for a device: it has channel end; and either it has the device end, or the arm owes it
abbrev pub is_owed : (device : ℕ) → Csw → Machine → Bool
is_owed device csw m =
    tells csw.unit CHANNEL_END
    && ((if tells csw.unit DEVICE_END then 1 else 0) + device_owes (device_at m device) == 1)

-- whether a subchannel is available
abbrev pub is_available : machine.Subchannel → Bool
is_available machine.Idle = true
is_available s = false

-- the machine in which this channel status word pends
abbrev pub with_pending : (device : ℕ) → Csw → Machine → Machine
with_pending device csw m = with_subchannel (machine.Pending device csw) m

-- Why it does not pend, in this order: a program runs, or a word pends already; it may not pend for this device.
abbrev pub WhyNotPending : (device : ℕ) → Csw → Machine → PendingFault → Type 0
WhyNotPending device csw m NotIdle = is_available m.subchannel ≡ false
WhyNotPending device csw m NotOwed = (is_available m.subchannel ≡ true) × (is_owed device csw m ≡ false)
