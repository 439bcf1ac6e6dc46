-- What the end of a program leaves at the drive that it ran at, and in the subchannel.
use Rattle.std.specs.Prelude.{◌≡◌, ℕ, ◌+◌, ◌*◌, List, Bool, Option, Some, None, option_map, slice_get, slice_set, if◌then◌else◌}
use Rattle.s360_words.specs.Storage.{Storage, changed, status_stored}
use Rattle.s360_words.specs.declared.words.Csw.{Csw}
use Rattle.s360_laws.specs.Status.{no_unit_status, no_channel_status}
use Rattle.s360_program.specs.Stands.{RunningState, Stands}
use Rattle.s360_laws.specs.declared.arm.Arm.{Arm}
use Rattle.s360_laws.specs.declared.arm.Arm.TheVariants.{AtRest, InMotion}
use Rattle.s360_laws.specs.declared.status.Status.{Status}
use Rattle.s360_laws.specs.declared.status.Condition.{Condition}
use Rattle.s360_laws.specs.declared.status.Condition.TheVariants.{Stored, Three}
use Rattle.attached_drives.specs.Drives.{AttachedState}
use Rattle.attached_drives.specs.DriveCalls.{DriveChanges, DriveIs, CutsAt}
use Rattle.s360_channel.specs.declared.subchannel.Subchannel.{Subchannel}
use Rattle.s360_channel.specs.declared.subchannel.Subchannel.TheVariants.{Working, Pending}

-- whether the arm moves behind a program that ended so
abbrev pub arm_told : (motion : Bool) → Arm
arm_told motion = if motion then InMotion else AtRest

-- its channel status word pends for the drive at a place, whose arm moves or rests as the drive reported
pub record IsOver (place : ℕ) (csw : Csw) (motion : Bool) (old new : List AttachedState)
    (subchannel : Subchannel) : Type 0 where
  pub attached : AttachedState
  pub was : slice_get old place ≡ Some attached
  pub becomes : new ≡ slice_set old place (record attached { arm = arm_told motion })
  pub pends : subchannel ≡ Pending attached.device csw

-- A cut.

-- where a program runs, the drive is there and stands with it
abbrev pub MayBeCut : Subchannel → List AttachedState → Type 0
MayBeCut (Working place r) drives = DriveIs place (Stands r) drives
MayBeCut s drives = Unit {0}

-- the drive is left as the cut of the program leaves it, which is then over
pub record IsCut (place : ℕ) (r : RunningState) (old new : List AttachedState) (subchannel : Subchannel) : Type 0 where
  pub told : Csw × Bool × Option (ℕ × ℕ)
  pub between : List AttachedState
  pub cut : DriveChanges place (CutsAt r told) old between
  pub over : IsOver place told.0 told.1 between new subchannel

-- the program that runs, if one does, is cut; its channel status word pends
abbrev pub CutsProgram : Subchannel → (old new : List AttachedState) → Subchannel → Type 0
CutsProgram (Working place r) old new subchannel = IsCut place r old new subchannel
CutsProgram s old new subchannel = (new ≡ old) × (subchannel ≡ s)

-- A cut whose channel status word is lost; a track that was not saved is reported with the address.
pub record IsLost (place : ℕ) (r : RunningState) (number : ℕ) (old new : List AttachedState)
    (unsaved : Option (ℕ × ℕ × ℕ)) : Type 0 where
  pub told : Csw × Bool × Option (ℕ × ℕ)
  pub attached : AttachedState
  pub was : slice_get old place ≡ Some attached
  pub cut : DriveChanges place (CutsAt r told) old new
  pub tells : unsaved ≡ option_map (λ t. (256 * number + attached.device, t.0, t.1)) told.2

-- the program that runs, if one does, is cut and forgotten
abbrev pub LosesProgram : Subchannel → (number : ℕ) → (old new : List AttachedState) → (unsaved : Option (ℕ × ℕ × ℕ))
    → Type 0
LosesProgram (Working place r) number old new unsaved = IsLost place r number old new unsaved
LosesProgram s number old new unsaved = (new ≡ old) × (unsaved ≡ None)

-- Halt I/O while the channel is available.

-- what is answered: zeros are stored where the device is there
abbrev pub halted_idle : (is_there : Bool) → Condition Status
halted_idle is_there = if is_there then Stored (record { unit = no_unit_status; channel = no_channel_status })
    else Three

-- and storage then
abbrev pub storage_halted : (is_there : Bool) → Storage → Storage
storage_halted is_there s = if is_there then changed (status_stored no_unit_status.0 no_channel_status.0) s else s
