-- The stage that a command comes to within one call, and the track that it may leave there.
use Rattle.std.specs.Prelude.{◌≡◌, ℕ, ◌+◌, List, [], Bool, true, false, ◌&&◌, Option, None, unwrap_or, length, slice_index_or}
use Rattle.ckd_sense.specs.declared.sense_bytes.TheConstants.Sense.{STORE_FAULT}
use Rattle.ckd_command.specs.declared.registers.Registers.{Registers}
use Rattle.ckd_command.specs.declared.registers.Mark.{Mark}
use Rattle.ckd_command.specs.declared.registers.Mark.TheVariants.{Saved, Lost}
use Rattle.ckd_command.specs.declared.close.DriveEnding.{DriveEnding}
use Rattle.ckd_command.specs.Answers.{Beginning}
use Rattle.ckd_drive.specs.declared.answers.DriveStage.{DriveStage}
use Rattle.ckd_drive.specs.declared.answers.DriveStage.TheVariants as stage
use Rattle.ckd_drive.specs.declared.answers.Begun.{Begun}
use Rattle.ckd_drive.specs.declared.answers.Begun.TheVariants as begun
use Rattle.ckd_command.specs.Commands.{with_cause}
use Rattle.ckd_command.specs.Drive.{Fault, is_written, is_written_by}
use Rattle.ckd_command.specs.Drive as drive
use Rattle.ckd_slot.specs.Cache.{after_save, after_failed_save}
use Rattle.ckd_drive.specs.Work.{DriveState, CallsStore, Reports, fault_met, with_image, after_begun, after_look, after_end, closed_of, ending_of, end_saves}
use Rattle.ckd_drive.specs.Work.{failed_ending, goes_to_cylinder_zero, look_loads, look_saves}
use Rattle.ckd_drive.specs.Invariant.{HalfDone, Parts, parts_of, Stands, state_of}

-- what a begin answers, by the stage that it came to
abbrev pub begun_at : DriveStage → Begun
begun_at stage.Idle = begun.Rejected
begun_at stage.Looking = begun.Started
begun_at stage.Passing = begun.Started
begun_at s = begun.Immediate

-- the track was left, and nothing else changed: it is saved, if it was written
abbrev pub Leaves : (old new : HalfDone) → Mark → (next : Registers) → Type 0
Leaves old new mark next = (new ≡ record old { cache = after_save old.cache; registers = next }) × (mark ≡ Saved)

-- its saving failed: it is lost, and the arm stays
pub record Loses (old new : HalfDone) (mark : Mark) : Type 0 where
  pub changed : old.cache.changed ≡ true
  pub left : List ℕ
  pub size : length left ≡ old.cache.image.geometry.track_size
  pub there : left ≡ slice_index_or new.cache.image.slots (unwrap_or old.cache.held 0) []
  pub job : new ≡ record old {
    cache = after_failed_save old.cache left;
    registers = with_cause (record old.registers { credit = None }) STORE_FAULT;
  }
  pub mark_is : mark ≡ Lost

-- A part of a call came to this: it stands, it is as the definitions have it by the fault that was met, the store was
-- called so, and no track that was written made way for another.
pub record Comes (loads saves : Bool) (old : DriveState) (after : Option Fault → DriveState)
    (now : Parts) : Type 0 where
  pub stands : Stands now
  pub state : state_of now ≡ with_image (after (fault_met old (state_of now))) now.job.cache.image
  pub calls : CallsStore loads saves old (state_of now)
  pub at_hand : now.job.cache.image.loads ≡ old.image.loads + 1 → is_written old.state ≡ false

-- a drive begins a command that its code leads to so, and comes to this
abbrev pub Begins : (old now : Parts) → Beginning → Type 0
Begins old now b =
    Comes false (is_written_by old.mark && goes_to_cylinder_zero b) (state_of old)
    (λ f. after_begun (drive.begun f (state_of old).state b) (state_of old)) now

-- a drive looks, and comes to this, once no byte has passed
abbrev pub Looks : (old now : Parts) → Type 0
Looks old now =
    Comes (look_loads (state_of old)) (look_saves (state_of old)) (state_of old) (λ f. after_look f (state_of old))
    (parts_of (record now.job { passed = [] }) now.mark now.stage)

-- a drive ends its command so, and with this ending
pub record Ends (old new : DriveState) (ending : DriveEnding) : Type 0 where
  pub state : new ≡ with_image (after_end (fault_met old new) old) new.image
  pub ends : ending ≡ ending_of (closed_of (fault_met old new) old old.work)
  pub calls : CallsStore false (end_saves old) old new
  pub reported : Reports (ending ≡ failed_ending) old new
