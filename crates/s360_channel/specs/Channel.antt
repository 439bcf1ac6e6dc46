-- A channel between two calls, and the machines that it stands for.
use Rattle.std.specs.Prelude.{◌≡◌, ℕ, zero, suc, ◌+◌, ◌==◌, ◌<◌, ◌≤◌, length, List, [], ◌∷◌, ◌++◌, map, Some, Bool, slice_get, sum_by}
use Rattle.s360_words.specs.Storage.{Storage}
use Rattle.ckd_command.specs.Drive.{IdleDrive, drive_of, first_drive}
use Rattle.ckd_drive.specs.Work.{DriveState, new_drive}
use Rattle.ckd_image.specs.Image.{ImageState}
use Rattle.s360_laws.specs.Scripts.{Script}
use Rattle.s360_program.specs.Advances.{Rests}
use Rattle.s360_program.specs.Laws.{StandsAtRun}
use Rattle.s360_program.specs.Stands.{RunningState}
use Rattle.s360_laws.specs.Machine as machine
use Rattle.s360_laws.specs.Machine.{Machine, Device, with_device, start_of}
use Rattle.s360_laws.specs.Soundness.{IsSound}
use Rattle.s360_laws.specs.declared.arm.Arm.{Arm}
use Rattle.s360_laws.specs.declared.arm.Arm.TheVariants.{AtRest}
use Rattle.attached_drives.specs.Drives.{AttachedState, device_of, AllRest, OthersRest}
use Rattle.s360_channel.specs.declared.subchannel.Subchannel.{Subchannel}
use Rattle.s360_channel.specs.declared.subchannel.Subchannel.TheVariants.{Idle, Working, Pending}

-- The drives are in the order in which they were attached. Where a program works the subchannel names its drive by the place
-- in this order.
pub record ChannelState : Type 0 where
  pub number : ℕ
  pub storage : Storage
  pub subchannel : Subchannel
  pub drives : List AttachedState

-- the machine that is read off a channel, but for a program that runs
abbrev pub machine_of : ChannelState → machine.Subchannel → Machine
machine_of c s = record { channel = c.number; storage = c.storage; subchannel = s; devices = map device_of c.drives }

-- A program that was accepted with this storage and this drive runs at the drive at a place: storage and that drive
-- are by now where its run over a script has brought them.
pub record WorksFor (c : ChannelState) (place : ℕ) (r : RunningState) (m : Machine) : Type 0 where
  pub attached : AttachedState
  pub is_there : slice_get c.drives place ≡ Some attached
  pub storage : Storage
  pub drive : IdleDrive
  pub script : Script
  pub machine : m ≡ with_device attached.device (λ d. record d { drive = drive })
      (record (machine_of c (machine.Working attached.device script)) { storage = storage })
  pub runs : StandsAtRun (start_of m drive) script r c.storage attached.drive
  pub others : OthersRest place c.drives

-- Without a running program a channel shows exactly one machine.
abbrev pub Shows : ChannelState → Machine → Subchannel → Type 0
Shows c m Idle = (m ≡ machine_of c machine.Idle) × AllRest c.drives
Shows c m (Working place r) = WorksFor c place r m
Shows c m (Pending device csw) = (m ≡ machine_of c (machine.Pending device csw)) × AllRest c.drives

-- A channel stands for a sound machine, and its number is one of the seven of a System/360.
pub record StandsFor (c : ChannelState) (m : Machine) : Type 0 where
  pub number : c.number < 7
  pub few : length c.drives ≤ 8
  pub shows : Shows c m c.subchannel
  pub sound : IsSound m

-- Every channel stands for a machine.
pub record IsChannel (c : ChannelState) : Type 0 where
  pub machine : Machine
  pub stands : StandsFor c machine

-- the machine with one device more, behind the others
abbrev pub attached : (device : ℕ) → ImageState → Machine → Machine
attached device image m = record m {
  devices = m.devices ++ record {
    device = device;
    arm = AtRest;
    drive = first_drive (record { geometry = image.geometry; slots = image.slots });
  } ∷ [];
}

-- What the images count, all together.
abbrev pub failures_of : ChannelState → ℕ
failures_of c = sum_by (λ u. u.drive.image.failures) c.drives

-- the loads and saves of all images
abbrev pub store_calls_of : ChannelState → ℕ
store_calls_of c = sum_by (λ u. u.drive.image.loads + u.drive.image.saves) c.drives
