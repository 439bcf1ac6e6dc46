-- What Start I/O makes of a program's first unit.
use Rattle.std.specs.Prelude.{◌≡◌, ℕ, Bool, true, false, None, Some}
use Rattle.s360_words.specs.Storage.{Storage}
use Rattle.s360_words.specs.Words.{caw_of, chains_command}
use Rattle.s360_words.specs.declared.words.Ccw.{Ccw}
use Rattle.s360_words.specs.declared.words.Caw.{Caw}
use Rattle.ckd_command.specs.Drive.{AfterBegin, begin, drive_of}
use Rattle.ckd_command.specs.declared.close.DriveEnding.{DriveEnding}
use Rattle.ckd_drive.specs.Work.{DriveState, Idle}
use Rattle.s360_laws.specs.Endings.{Ending, ending, immediate}
use Rattle.s360_laws.specs.Runs.{Start, start_point}
use Rattle.s360_laws.specs.Starts.{BadStart, RejectedStart, ImmediateStart, AcceptedStart, first, first_begun}
use Rattle.s360_laws.specs.Status.{no_channel_status, with_interruption}
use Rattle.s360_laws.specs.Units.{Between, GoesOn, unit, next_begun}
use Rattle.s360_laws.specs.Transfers.{Request}
use Rattle.s360_laws.specs.Unsaved.{GainsNoCheck}
use Rattle.s360_program.specs.Advances.{Rests, Leaves}
use Rattle.s360_program.specs.Stands.{RunningState, Stands, phase_in}
use Rattle.s360_program.specs.Place.{place_of}
use Rattle.s360_program.specs.Steps.{run_of, Fits}
use Rattle.s360_program.specs.declared.place.Place.{Place as KeptPlace}
use Rattle.s360_program.specs.Stage as stage
use Rattle.s360_program.specs.declared.starting.First.{First as FirstAnswer}
use Rattle.s360_program.specs.declared.starting.First.TheVariants as begun
use Rattle.s360_program.specs.declared.program.Start.{Start as Answer}
use Rattle.s360_program.specs.declared.program.Start.TheVariants as start

-- nothing is started, and nothing changes
pub record IsBad (s : Start) (old new : DriveState) : Type 0 where
  pub first : first s ≡ BadStart
  pub drive : new ≡ old

-- the drive rejects the command; its sense says why
pub record IsRejected (s : Start) (new : DriveState) : Type 0 where
  pub first : first s ≡ RejectedStart (drive_of new.state)
  pub rests : Rests new

-- the program is over at once
pub record IsImmediate (s : Start) (told : DriveEnding) (asked : Bool) (new : DriveState) : Type 0 where
  pub ending : Ending
  pub first : first s ≡ ImmediateStart ending
  pub unit : ending.csw.unit ≡ told.unit
  pub motion : ending.motion ≡ told.motion
  pub channel : ending.csw.channel ≡ with_interruption asked no_channel_status
  pub drive : Leaves ending new

-- the program runs, and stands behind its first unit
pub record IsAccepted (s : Start) (r : RunningState) (new : DriveState) : Type 0 where
  pub first : first s ≡ AcceptedStart
  pub caw : Caw
  pub word : caw_of s.caw ≡ Some caw
  pub key : r.key ≡ caw.key
  pub unit : unit None caw.key (Between (start_point caw s)) ≡ GoesOn (phase_in r s.storage new)
  pub stands : Stands r new

-- what Start I/O answers is what the first unit of the program comes to
abbrev pub IsFirst : Start → Answer → (old new : DriveState) → Type 0
IsFirst s start.Bad old new = IsBad s old new
IsFirst s start.Rejected old new = IsRejected s new
IsFirst s (start.Immediate told asked) old new = IsImmediate s told asked new
IsFirst s (start.Accepted r) old new = IsAccepted s r new

-- A start makes no call of the store, so it meets no fault, and reports none.
pub record StartsQuietly (old new : DriveState) : Type 0 where
  pub image : new.image ≡ old.image
  pub no_check : GainsNoCheck (drive_of old.state) (drive_of new.state)

-- The first command.

-- the first command as the channel asks for it
abbrev pub request_for : Storage → Ccw → KeptPlace → Request
request_for s ccw p = record { storage = s; ccw = ccw; place = place_of p }

-- an immediate one: nothing is saved, since nothing is written
abbrev pub ImmediateDone : (key : ℕ) → Ccw → KeptPlace → (motion : Bool) → FirstAnswer → (old new : DriveState) → Type 0
ImmediateDone key ccw p motion (begun.Immediate told asked) old new =
    (chains_command ccw ≡ false) × (new.image ≡ old.image) × (asked ≡ p.interruption) × (told.motion ≡ motion)
    × (told.unit ≡ (immediate old.state motion).unit)
    × Leaves (ending None key (place_of p) (immediate old.state motion) no_channel_status) new
ImmediateDone key ccw p motion (begun.Accepted r) old new =
    (chains_command ccw ≡ true) × (new.image ≡ old.image)
    × (run_of r ≡ record { key = key; place = place_of p; stage = stage.Between }) × (new.state ≡ old.state)
    × (new.work ≡ Idle)
ImmediateDone key ccw p motion begun.Rejected old new = ⊥

-- the first command is over at once, and the program with it
pub record BegunImmediate (key : ℕ) (r : Request) (b : AfterBegin) (told : DriveEnding) (asked : Bool)
    (new : DriveState) : Type 0 where
  pub over : Ending
  pub first : first_begun key r b ≡ ImmediateStart over
  pub unit : over.csw.unit ≡ told.unit
  pub motion : over.motion ≡ told.motion
  pub channel : over.csw.channel ≡ with_interruption asked no_channel_status
  pub drive : Leaves over new

-- what the first command comes to is what the first unit comes to
abbrev pub FirstBegun : (key : ℕ) → Storage → Ccw → KeptPlace → FirstAnswer → (old new : DriveState) → Type 0
FirstBegun key s ccw p begun.Rejected old new =
    (first_begun key (request_for s ccw p) (begin None ccw.code old.state) ≡ RejectedStart (drive_of new.state))
    × Rests new
FirstBegun key s ccw p (begun.Immediate told asked) old new = BegunImmediate key (request_for s ccw p)
    (begin None ccw.code old.state) told asked new
FirstBegun key s ccw p (begun.Accepted r) old new =
    (first_begun key (request_for s ccw p) (begin None ccw.code old.state) ≡ AcceptedStart) × (r.key ≡ key) × Fits r new
    × (next_begun None key (request_for s ccw p) (begin None ccw.code old.state) ≡ GoesOn (phase_in (run_of r) s new))
