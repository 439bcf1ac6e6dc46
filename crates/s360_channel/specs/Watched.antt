-- What is seen of the program that runs: it is read off its run, which stands in a phase between two units.
use Rattle.std.specs.Prelude.{◌≡◌, ℕ, List, [], false, Option, Some, None}
use Rattle.ckd_command.specs.declared.begin.Opened.{Opened}
use Rattle.ckd_drive.specs.Work.{DriveState, command_of, passed_of}
use Rattle.s360_laws.specs.Scripts.{Script}
use Rattle.s360_laws.specs.Units.{ProgramPhase, Between, Looking, Moving, StandsAt, state_in}
use Rattle.s360_program.specs.Seen.{seen_in}
use Rattle.s360_laws.specs.Machine as machine
use Rattle.s360_laws.specs.Machine.{Machine, Device, device_at, is_working, start_of}
use Rattle.s360_channel.specs.declared.view.Watched.{Watched}

-- the command that works in a phase, if one does
abbrev pub command_in : ProgramPhase → Option Opened
command_in (Between p) = None
command_in (Looking o r) = Some o.opened
command_in (Moving o t) = Some o.opened

-- the bytes that have moved in it
abbrev pub moved_in : ProgramPhase → List ℕ
moved_in (Moving o t) = t.bytes
moved_in phase = []

-- The program of this device runs, and after its run so far stands in this phase, with this protection key.
pub record StandsInPhase (m : Machine) (device key : ℕ) (phase : ProgramPhase) : Type 0 where
  pub script : Script
  pub working : m.subchannel ≡ machine.Working device script
  pub at : Device
  pub is_there : device_at m device ≡ Some at
  pub stands : StandsAt (start_of m at.drive) script key phase

-- what is seen of the program is read off that phase
pub record SeesProgram (m : Machine) (seen : Watched) : Type 0 where
  pub key : ℕ
  pub phase : ProgramPhase
  pub stands : StandsInPhase m seen.device key phase
  pub program : seen.program ≡ seen_in key phase

-- the program that runs, or that none does
abbrev pub ShowsProgram : Machine → Option Watched → Type 0
ShowsProgram m None = is_working m.subchannel ≡ false
ShowsProgram m (Some seen) = SeesProgram m seen

-- the drive is in the state of that phase, and at its command
pub record SeesDrive (m : Machine) (d : DriveState) : Type 0 where
  pub device : ℕ
  pub key : ℕ
  pub phase : ProgramPhase
  pub stands : StandsInPhase m device key phase
  pub state : d.state ≡ state_in phase
  pub command : command_of d.work ≡ command_in phase
  pub moved : passed_of d.work ≡ moved_in phase

-- the drive at its command, or that no program runs
abbrev pub ShowsDriveAtWork : Machine → Option DriveState → Type 0
ShowsDriveAtWork m None = is_working m.subchannel ≡ false
ShowsDriveAtWork m (Some d) = SeesDrive m d
