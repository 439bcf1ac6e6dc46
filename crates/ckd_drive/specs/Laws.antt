-- What the clauses of the drive's calls say together: a failed call of the store is reported, and nothing else is reported
-- as one.
use Rattle.std.specs.Prelude.{◌≡◌, ◌⊎◌, ℕ, ◌+◌, true, false, Some}
use Rattle.ckd_command.specs.declared.close.DriveEnding.{DriveEnding}
use Rattle.ckd_command.specs.Drive.{begin, is_written, tells_equipment_check, unsaved}
use Rattle.ckd_drive.specs.declared.answers.Begun.{Begun}
use Rattle.ckd_drive.specs.declared.answers.Begun.TheVariants as begun
use Rattle.ckd_drive.specs.Work.{DriveState, Work, Over, CallsStore, Reports, fault_met, with_image, after_begin, answer_of_begin, begin_saves, after_look}
use Rattle.ckd_drive.specs.Work.{look_loads, look_saves, failed_ending, after_end, closed_of, ending_of, end_saves, after_settle}

-- One call of a drive while a program runs, by its clauses: begin, look, end, settle; or bytes pass.
pub data Called (old new : DriveState) : Type 0 where
  Begin : (code : ℕ) (answer : Begun) (state : new ≡ with_image (after_begin (fault_met old new) code old) new.image)
      (answers : answer ≡ answer_of_begin (begin (fault_met old new) code old.state))
      (calls : CallsStore false (begin_saves code old) old new) (reported : Reports (answer ≡ begun.Rejected) old new)
      → Called old new
  Look : (state : new ≡ with_image (after_look (fault_met old new) old) new.image)
      (calls : CallsStore (look_loads old) (look_saves old) old new)
      (reported : Reports (new.work ≡ Over failed_ending) old new) → Called old new
  Pass : (work : Work) (moved : new ≡ record old { work = work }) → Called old new
  End : (ending : DriveEnding) (state : new ≡ with_image (after_end (fault_met old new) old) new.image)
      (ends : ending ≡ ending_of (closed_of (fault_met old new) old old.work))
      (calls : CallsStore false (end_saves old) old new) (reported : Reports (ending ≡ failed_ending) old new)
      → Called old new
  Settle : (state : new ≡ with_image (after_settle (fault_met old new) old) new.image)
      (calls : CallsStore false (is_written old.state) old new)
      (reported : Reports (unsaved new.state ≡ Some (old.state.registers.cylinder, old.state.registers.head)) old new)
      → Called old new

-- the drive's sense has equipment check
abbrev pub tells : DriveState → Type 0
tells d = tells_equipment_check d.state.registers.sense ≡ true

-- no call of the store failed, and equipment check is not gained; or one failed, the sense has equipment check, and nothing
-- is left to be saved
abbrev pub TellsFailures : DriveState → DriveState → Type 0
TellsFailures old new = ((new.image.failures ≡ old.image.failures) × (tells new → tells old))
    ⊎ ((new.image.failures ≡ old.image.failures + 1) × tells new × (is_written new.state ≡ false))

-- every call of a drive reports its failed calls of the store so
abbrev pub EachCallTells : Type 0
EachCallTells = (old new : DriveState) → Called old new → TellsFailures old new

-- The drive after so many calls, one after another.
pub data Trail (first : DriveState) : DriveState → Type 0 where
  Start : Trail first first
  Then : (d e : DriveState) → Trail first d → Called d e → Trail first e

-- over any list of calls the count of failures never falls, and equipment check is gained only where it rose
pub record GainsByFailures (first last : DriveState) : Type 0 where
  pub rose : ℕ
  pub counted : last.image.failures ≡ first.image.failures + rose
  pub gained : rose ≡ 0 → tells last → tells first

-- and so does any number of calls
abbrev pub EachTrailTells : Type 0
EachTrailTells = (first last : DriveState) → Trail first last → GainsByFailures first last
