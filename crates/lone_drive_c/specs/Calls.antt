-- What the calls of a handle say and leave. What is said of a drive is what the calls of the same names say of it, whose crate has the
-- definitions.
use Rattle.std.specs.Prelude.{◌≡◌, ℤ, pos, ℕ, ◌+◌, Bool, true, false, nat_le, List, length, slice_range, Option, Some, None, Result}
use Rattle.ckd_track.specs.declared.model.DriveModel.{DriveModel}
use Rattle.ckd_image.specs.Store.{Counts}
use Rattle.ckd_image.specs.declared.store.StoreFault.{StoreFault}
use Rattle.ckd_command.specs.Drive.{begin, is_written, unsaved}
use Rattle.ckd_command.specs.declared.close.DriveEnding.{DriveEnding}
use Rattle.ckd_drive.specs.Work.{Over, DriveState, CallsStore, Reports, fault_met, with_image, after_begin, after_look, after_end, after_settle}
use Rattle.ckd_drive.specs.Work.{answer_of_begin, answer_of_look, begin_saves, look_loads, look_saves, end_saves, failed_ending, closed_of, ending_of, begun_program, without_sense}
use Rattle.ckd_drive.specs.Work.{is_idle, is_working, may_end, gives_now, takes_now, left_of, passed_of, given_now, moved_on, new_drive}
use Rattle.ckd_drive.specs.declared.answers.Begun.{Begun}
use Rattle.ckd_drive.specs.declared.answers.Begun.TheVariants.{Rejected}
use Rattle.lone_drive_c.specs.Making.{NotFormatted, new_volume}
use Rattle.lone_drive_c.specs.declared.drive.LoneDrive.{LoneDrive}
use Rattle.lone_drive_c.specs.declared.refusal.NotMade.{NotMade}
use Rattle.lone_drive_c.specs.Codes.{nothing_held, bad_model, command_open, no_command, no_end, gives_none, takes_none, too_many, bytes_passed}
use Rattle.lone_drive_c.specs.Phases.{is_untouched}
use Rattle.lone_drive_c.specs.Codes.{begun_code, look_code, made_code, settled_code}

-- A call of a handle that holds nothing says so, and the handle holds nothing afterwards; otherwise the call does this to the drive that
-- the handle holds.
abbrev pub Holds : (old new : Option LoneDrive) → (code : ℤ) → (DriveState → DriveState → Type 0) → Type 0
Holds None None code does = code ≡ nothing_held
Holds None (Some new) code does = ⊥
Holds (Some old) None code does = ⊥
Holds (Some old) (Some new) code does = does old.drive new.drive

-- A call that the drive allows does this; else C is told this number, and nothing changes.
abbrev pub Allowed : Bool → (number : ℤ) → (does : Type 0) → (code : ℤ) → (stays : Type 0) → Type 0
Allowed true number does code stays = does
Allowed false number does code stays = (code ≡ number) × stays

-- Making.

-- C is told by a number why there is no drive, and it is why.
pub record TellsWhy (is_why : NotMade → Type 0) (code : ℤ) : Type 0 where
  pub reason : NotMade
  pub told : code ≡ made_code reason
  pub holds : is_why reason

-- A drive of a model that there is is new over a new volume,
abbrev pub IsNewOf : Option DriveModel → (cylinders : ℕ) → DriveState → Type 0
IsNewOf (Some model) cylinders d = d ≡ new_drive (new_volume model cylinders)
IsNewOf None cylinders d = ⊥

-- or there is none: there is no such model, or the volume is not made.
abbrev pub WhyNone : Option DriveModel → (cylinders : ℕ) → (code : ℤ) → Type 0
WhyNone (Some model) cylinders code = TellsWhy (NotFormatted cylinders) code
WhyNone None cylinders code = code ≡ bad_model

-- Commands.

-- A program begins, where no command is open.
abbrev pub StartsProgram : (code : ℤ) → (old new : DriveState) → Type 0
StartsProgram code old new = Allowed (is_idle old.work) command_open
    ((code ≡ pos 0) × (new ≡ record old { state = begun_program old.state })) code (new ≡ old)

-- The sense bytes are made zero, where no command is open.
abbrev pub ClearsSense : (code : ℤ) → (old new : DriveState) → Type 0
ClearsSense code old new = Allowed (is_idle old.work) command_open
    ((code ≡ pos 0) × (new ≡ record old { state = without_sense old.state })) code (new ≡ old)

-- C is told what a command code led to.
pub record BeginsCommand (command : ℕ) (code : ℤ) (old new : DriveState) : Type 0 where
  pub begun : Begun
  pub told : code ≡ begun_code begun
  pub answer : begun ≡ answer_of_begin (begin (fault_met old new) command old.state)
  pub state : new ≡ with_image (after_begin (fault_met old new) command old) new.image
  pub calls : CallsStore false (begin_saves command old) old new
  pub reported : Reports (begun ≡ Rejected) old new

-- The command is begun, where none is open.
abbrev pub Begins : (command : ℕ) → (code : ℤ) → (old new : DriveState) → Type 0
Begins command code old new = Allowed (is_idle old.work) command_open (BeginsCommand command code old new) code (new ≡ old)

-- C is told what a look led to.
pub record LooksOn (code : ℤ) (old new : DriveState) : Type 0 where
  pub told : code ≡ look_code (answer_of_look new.work)
  pub state : new ≡ with_image (after_look (fault_met old new) old) new.image
  pub calls : CallsStore (look_loads old) (look_saves old) old new
  pub reported : Reports (new.work ≡ Over failed_ending) old new

-- A command that works looks for its area.
abbrev pub Looks : (code : ℤ) → (old new : DriveState) → Type 0
Looks code old new = Allowed (is_working old.work) no_command (LooksOn code old new) code (new ≡ old)

-- C is told the unit status with which a command ends.
pub record EndsCommand (code : ℤ) (old new : DriveState) : Type 0 where
  pub ending : DriveEnding
  pub told : code ≡ pos (ending.unit.0)
  pub ends : ending ≡ ending_of (closed_of (fault_met old new) old old.work)
  pub state : new ≡ with_image (after_end (fault_met old new) old) new.image
  pub calls : CallsStore false (end_saves old) old new
  pub reported : Reports (ending ≡ failed_ending) old new

-- A command that is over, or has found its area, ends.
abbrev pub Ends : (code : ℤ) → (old new : DriveState) → Type 0
Ends code old new = Allowed (may_end old.work) no_end (EndsCommand code old new) code (new ≡ old)

-- C is told whether the track under the arm was saved, if it was written.
pub record SettlesTrack (code : ℤ) (old new : DriveState) : Type 0 where
  pub settled : Result (Unit {0}) StoreFault
  pub told : code ≡ settled_code settled
  pub counted : Counts old.image.failures new.image.failures settled
  pub state : new ≡ with_image (after_settle (fault_met old new) old) new.image
  pub saved : new.image.slots ≡ new.state.volume.slots
  pub calls : CallsStore false (is_written old.state) old new
  pub reported : Reports (unsaved new.state ≡ Some (old.state.registers.cylinder, old.state.registers.head)) old new

-- The drive settles, where no byte of a command has passed.
abbrev pub Settles : (code : ℤ) → (old new : DriveState) → Type 0
Settles code old new = Allowed (is_untouched old.work) bytes_passed (SettlesTrack code old new) code (new ≡ old)

-- Bytes.

-- The drive gives the next bytes, as many as are asked for,
pub record GivesBytes (code : ℤ) (before into : List ℕ) (old new : DriveState) : Type 0 where
  pub told : code ≡ pos 0
  pub given : into ≡ slice_range (given_now old old.work) (length (passed_of old.work)) (length (passed_of old.work) + length before)
  pub moved : new ≡ record old { work = moved_on into old.work }

-- where it gives bytes, and no more than it has.
abbrev pub Gives : (code : ℤ) → (before into : List ℕ) → (old new : DriveState) → Type 0
Gives code before into old new = let stays = (into ≡ before) × (new ≡ old) in
    Allowed (gives_now old.work) gives_none
    (Allowed (nat_le (length before) (left_of old.work)) too_many (GivesBytes code before into old new) code stays) code stays

-- The drive takes these bytes, where it takes some, and so many.
abbrev pub Takes : (code : ℤ) → (bytes : List ℕ) → (old new : DriveState) → Type 0
Takes code bytes old new =
    Allowed (takes_now old.work) takes_none
    (Allowed (nat_le (length bytes) (left_of old.work)) too_many
    ((code ≡ pos 0) × (new ≡ record old { work = moved_on bytes old.work })) code (new ≡ old)) code (new ≡ old)
