-- A running program at one time, and where units lead it.
use Rattle.std.proofs.Common.{◌≡◌, ℕ}
use Rattle.s360_words.specs.Storage.{Storage}
use Rattle.ckd_drive.specs.Work.{DriveState}
use Rattle.s360_laws.specs.Scripts.{units}
use Rattle.s360_laws.specs.Units.{ProgramPhase, walk, StandsIn}
use Rattle.s360_program.specs.Stands.{phase_in}
use Rattle.s360_program.specs.Steps.{run_of}
use Rattle.s360_program.specs.declared.run.Run.{Run}

-- where a program stands at one time: its key, the phase, and the drive
pub record Moment : Type 0 where
  pub key : ℕ
  pub phase : ProgramPhase
  pub drive : DriveState

-- so many units lead a program from one moment to another, under the same key
pub record LeadsTo (start : Moment) (done : ℕ) (at : Moment) : Type 0 where
  pub same_key : at.key ≡ start.key
  pub goes : walk (units done) start.key start.phase ≡ StandsIn at.phase

-- what a step of a program begins with or leaves: the program as the code keeps it, storage and the drive
pub record MachineState : Type 0 where
  pub run : Run
  pub storage : Storage
  pub drive : DriveState

-- the moment at which the machine is in such a state
abbrev pub moment_of : MachineState → Moment
moment_of m = record { key = m.run.key; phase = phase_in (run_of m.run) m.storage m.drive; drive = m.drive }
