-- What attached drives show of themselves.
use Rattle.std.specs.Prelude.{ℕ, ◌-◌, ◌++◌, List, map, length, replicate, Option, Some, None}
use Rattle.ckd_sense.specs.SenseBytes.{sense_bytes}
use Rattle.s360_laws.specs.Machine.{Device}
use Rattle.s360_laws.specs.declared.arm.Arm.{Arm}
use Rattle.attached_drives.specs.declared.view.DriveView.{DriveView}

-- what is known of a drive without a channel program
abbrev pub drive_seen : Device → DriveView
drive_seen d = record {
  model = d.drive.volume.geometry.model;
  cylinders = d.drive.volume.geometry.cylinders;
  arm = d.arm;
  cylinder = d.drive.cylinder;
  head = d.drive.head;
  sense = sense_bytes d.drive.sense;
}

-- addresses and arms of the drives, in their order, in eight places
abbrev pub drives_seen : List Device → List (Option (ℕ × Arm))
drives_seen ds = map (λ d. Some (d.device, d.arm)) ds ++ replicate (8 - length ds) None
