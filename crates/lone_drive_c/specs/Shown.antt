-- What is shown of a drive.
use Rattle.std.specs.Prelude.{◌≡◌, ℤ, pos, ℕ, if◌then◌else◌}
use Rattle.ckd_track.specs.Model.{model_number_of}
use Rattle.ckd_sense.specs.SenseBytes.{sense_bytes}
use Rattle.ckd_command.specs.Drive.{is_written}
use Rattle.ckd_drive.specs.Work.{DriveState, phase_of}
use Rattle.ckd_drive.specs.declared.answers.Phase.{Phase}
use Rattle.ckd_drive.specs.declared.answers.Phase.TheVariants.{Idle, Over, Looking, Gives, Takes}
use Rattle.lone_drive_c.specs.declared.showing.Next.{Next}
use Rattle.lone_drive_c.specs.declared.showing.Seen.{Seen}
use Rattle.lone_drive_c.specs.Codes.{phase_code}

-- how many bytes have passed, and how many more may; zeros where none pass
abbrev pub next_shown : Phase → Next
next_shown (Gives passed left) = record { passed = passed; left = left }
next_shown (Takes passed left) = record { passed = passed; left = left }
next_shown phase = record { passed = 0; left = 0 }

-- C is told how far the command is.
abbrev pub ShowsNext : (code : ℤ) → Next → DriveState → Type 0
ShowsNext code shown d = (code ≡ phase_code (phase_of d.work)) × (shown ≡ next_shown (phase_of d.work))

-- a drive: its volume's model and cylinders, where its arm is, whether the track there waits to be saved, and the sense bytes
abbrev pub drive_shown : DriveState → Seen
drive_shown d = record {
  model = model_number_of d.state.volume.geometry.model;
  cylinders = d.state.volume.geometry.cylinders;
  cylinder = d.state.registers.cylinder;
  head = d.state.registers.head;
  written = if is_written d.state then 1 else 0;
  sense = sense_bytes d.state.registers.sense;
  reserved = 0;
}

-- It is shown.
abbrev pub Shows : (code : ℤ) → Seen → DriveState → Type 0
Shows code shown d = (code ≡ pos 0) × (shown ≡ drive_shown d)
