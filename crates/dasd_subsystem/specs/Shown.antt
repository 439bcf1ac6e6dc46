-- What a C program is shown of a channel and of a drive: numbers in the place of names.
use Rattle.std.specs.Prelude.{◌≡◌, ℕ, Bool, List, length, map, filter, is_some, Option, Some, None, if◌then◌else◌}
use Rattle.ckd_track.specs.Model.{model_number_of}
use Rattle.s360_laws.specs.declared.arm.Arm.{Arm}
use Rattle.s360_laws.specs.declared.arm.Arm.TheVariants.{AtRest, InMotion, Arrived}
use Rattle.attached_drives.specs.declared.view.DriveView.{DriveView}
use Rattle.s360_channel.specs.declared.view.View.{View}
use Rattle.s360_channel.specs.declared.view.SubchannelView.{SubchannelView}
use Rattle.s360_channel.specs.declared.view.SubchannelView.TheVariants.{Idle, Working, Pending}
use Rattle.dasd_subsystem.specs.declared.shown.ShownDrive.{ShownDrive}
use Rattle.dasd_subsystem.specs.declared.shown.ShownChannel.{ShownChannel}

-- a subchannel: its number, the device whose program runs or ended, and 1 where a word of that program asked for an interruption
abbrev pub numbers_of : SubchannelView → ℕ × ℕ × ℕ
numbers_of Idle = (0, 0, 0)
numbers_of (Working device asked) = (1, device, if asked then 1 else 0)
numbers_of (Pending device csw) = (2, device, 0)

abbrev pub number_of_arm : Arm → ℕ
number_of_arm AtRest = 0
number_of_arm InMotion = 1
number_of_arm Arrived = 2

abbrev pub drive_shown : DriveView → ShownDrive
drive_shown d = record {
  model = model_number_of d.model;
  cylinders = d.cylinders;
  cylinder = d.cylinder;
  head = d.head;
  arm = number_of_arm d.arm;
  sense = d.sense;
  reserved = 0;
}

-- what a subchannel does is shown
abbrev pub ShowsSubchannel : ShownChannel → SubchannelView → Type 0
ShowsSubchannel s seen = let n = numbers_of seen in (s.subchannel ≡ n.0) × (s.device ≡ n.1) × (s.asked ≡ n.2)

-- The drives of a channel are shown in the order of attachment, each with the low byte of its address and the number of its arm, and how
-- many they are; behind them stand zeros.
abbrev pub unit_shown : Option (ℕ × Arm) → ℕ
unit_shown (Some d) = d.0
unit_shown None = 0

abbrev pub arm_shown : Option (ℕ × Arm) → ℕ
arm_shown (Some d) = number_of_arm d.1
arm_shown None = 0

abbrev pub drives_shown : List (Option (ℕ × Arm)) → ℕ
drives_shown drives = length (filter is_some drives)

abbrev pub ShowsState : ShownChannel → View → Type 0
ShowsState s view =
    ShowsSubchannel s view.subchannel × (s.drives ≡ drives_shown view.drives) × (s.units ≡ map unit_shown view.drives) × (s.arms ≡ map arm_shown view.drives)
