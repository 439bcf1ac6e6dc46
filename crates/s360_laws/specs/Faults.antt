-- What a fault of the store does to a channel program.
use Rattle.std.specs.Prelude.{◌≡◌, ◌⊎◌, ◌+◌, ◌%◌, ◌^◌, ℕ, suc, List, [], ◌∷◌, ◌++◌, true, false, Option, Some, None, length, option_map, slice_get}
use Rattle.std.specs.Prelude.{if◌then◌else◌}
use Rattle.s360_words.specs.Words.{has}
use Rattle.s360_words.specs.declared.flags.TheConstants.UnitStatus.{UNIT_CHECK}
use Rattle.s360_words.specs.declared.words.Caw.{Caw}
use Rattle.ckd_command.specs.Drive.{IdleDrive, drive_of, slots_of, track_number, Fault, LoadFails, SaveFails, Open, state_of, tells_equipment_check}
use Rattle.s360_laws.specs.Endings.{Ending, Outcome, NotEnded, Ended, Standing}
use Rattle.s360_laws.specs.Laws.{IsEnd}
use Rattle.s360_laws.specs.Runs.{Start, run, start_point}
use Rattle.s360_laws.specs.Scripts.{Script, OneUnit, units_in}
use Rattle.s360_laws.specs.Status.{tells}
use Rattle.s360_laws.specs.StoreCalls.{cut_meets, looks_for_area, meets}
use Rattle.s360_laws.specs.Transfers.{Request}
use Rattle.s360_laws.specs.Units.{Between, Looking, unit, Next, GoesOn, EndsIn, ProgramPhase, StandsIn, standing_in, state_in, walk}

-- how long the slot of a track is, if there is one
abbrev pub length_at : ℕ → IdleDrive → Option ℕ
length_at track drive = option_map length (slice_get (slots_of drive) track)

-- each slot is as it was, but for that of the track under the arm, which has its old length
pub record SameButTrack (before after : IdleDrive) : Type 0 where
  pub geometry : after.volume.geometry ≡ before.volume.geometry
  pub others : (n : ℕ) → (n ≡ track_number after → ⊥) → slice_get (slots_of after) n ≡ slice_get (slots_of before) n
  pub size : length_at (track_number after) after ≡ length_at (track_number after) before

-- A load that fails loses no slot. A save that fails loses at most that of the track under the arm, which is reported as not
-- saved.
abbrev pub LosesAtMost : Fault → (before after : IdleDrive) → (unsaved : Option (ℕ × ℕ)) → Type 0
LosesAtMost LoadFails before after unsaved = after.volume ≡ before.volume
LosesAtMost (SaveFails left) before after unsaved =
    (unsaved ≡ Some (after.cylinder, after.head)) × SameButTrack before after

-- An ending by a fault: channel end, device end and unit check in the CSW, no motion, and never incorrect length; equipment check in
-- the sense; and at most one slot is lost.
pub record EndsByFault (fault : Fault) (before : IdleDrive) (e : Ending) : Type 0 where
  pub ends : IsEnd e.csw.unit false
  pub unit_check : tells e.csw.unit UNIT_CHECK ≡ true
  pub no_motion : e.motion ≡ false
  pub no_incorrect_length : has e.csw.channel.0 0x40 ≡ false
  pub equipment_check : tells_equipment_check e.drive.sense ≡ true
  pub slots : LosesAtMost fault before e.drive e.unsaved

-- the arm and the head are where they were
pub record StaysAt (before after : IdleDrive) : Type 0 where
  pub cylinder : after.cylinder ≡ before.cylinder
  pub head : after.head ≡ before.head

-- Units.

-- the drive as a unit finds it
abbrev pub drive_in : ProgramPhase → IdleDrive
drive_in phase = drive_of (state_in phase)

-- the drive as a cut in a phase leaves it, where it meets no fault
abbrev pub cut_drive : (key : ℕ) → ProgramPhase → IdleDrive
cut_drive key phase = ((standing_in key phase).cut None).drive

-- The program is over in that unit, and the arm and the head stay. The slots are those that a cut before it leaves, but for
-- the lost one.
abbrev pub NextByFault : Fault → (key : ℕ) → ProgramPhase → Next → Type 0
NextByFault fault key phase (GoesOn next) = ⊥
NextByFault fault key phase (EndsIn s e) = EndsByFault fault (cut_drive key phase) e × StaysAt (drive_in phase) e.drive

-- A unit meets a fault exactly where it makes the call of the store that fails so.
pub record UnitByFault (fault : Fault) (key : ℕ) (phase : ProgramPhase) : Type 0 where
  pub met : meets fault key phase ≡ true → NextByFault fault key phase (unit (Some fault) key phase)
  pub not_met : meets fault key phase ≡ false → unit (Some fault) key phase ≡ unit None key phase

-- every unit of every phase meets a fault so
abbrev pub FaultEndsUnit : Type 0
FaultEndsUnit = (fault : Fault) (key : ℕ) (phase : ProgramPhase) → UnitByFault fault key phase

-- All that a failed load leaves: unit status 0E and the sense bytes 10 00. No byte has passed, no check is met, no index has passed,
-- the arm stays and no slot changes.
abbrev pub ended_by_load : (key : ℕ) → Open → Request → Ending
ended_by_load key o r = record {
  drive = record (drive_of (state_of o)) { sense = record { 0 = 0x1000 } };
  csw = record {
    key = key;
    address = (r.place.last + 8) % 2 ^ 24;
    unit = record { 0 = 0x0E };
    channel = record { 0 = if r.place.interruption then 0x80 else 0x00 };
    count = r.ccw.count;
  };
  motion = false;
  unsaved = None;
}

-- a look at an area whose load fails ends the program so
abbrev pub FailedLoad : Type 0
FailedLoad = (s : Start) (caw : Caw) (script : Script) (o : Open) (r : Request)
    → walk script caw.key (Between (start_point caw s)) ≡ StandsIn (Looking o r) → looks_for_area o ≡ true
    → unit (Some LoadFails) caw.key (Looking o r) ≡ EndsIn r.storage (ended_by_load caw.key o r)

-- Cuts.

-- the same of a cut
pub record CutByFault (fault : Fault) (key : ℕ) (phase : ProgramPhase) : Type 0 where
  pub met : cut_meets fault phase ≡ true
      → let e = (standing_in key phase).cut (Some fault) in EndsByFault fault (cut_drive key phase) e
      × StaysAt (drive_in phase) e.drive
  pub not_met : cut_meets fault phase ≡ false → (standing_in key phase).cut (Some fault)
      ≡ (standing_in key phase).cut None

-- and every cut in every phase
abbrev pub FaultEndsPhase : Type 0
FaultEndsPhase = (fault : Fault) (key : ℕ) (phase : ProgramPhase) → CutByFault fault key phase

-- Runs.

-- a program that ended by a fault in the last of so many units
abbrev pub OutcomeByFault : Fault → (units : ℕ) → (before : IdleDrive) → Outcome → Type 0
OutcomeByFault fault units before (NotEnded seen) = ⊥
OutcomeByFault fault units before (Ended used s e) = (used ≡ units) × EndsByFault fault before e

-- The same of the run: the program that meets a fault is over in that unit.
abbrev pub FaultEndsProgram : Type 0
FaultEndsProgram = (s : Start) (script : Script) (fault : Fault) (seen : Standing) → run script s ≡ NotEnded seen →
    let with_fault = run (script ++ OneUnit (Some fault) ∷ []) s in
    (with_fault ≡ run (script ++ OneUnit None ∷ []) s)
    ⊎ OutcomeByFault fault (suc (units_in script)) (seen.cut None).drive with_fault

-- A cut loads nothing; and where its save fails, it ends the program so.
abbrev pub FaultEndsCut : Type 0
FaultEndsCut = (s : Start) (script : Script) (seen : Standing) → run script s ≡ NotEnded seen →
    (seen.cut (Some LoadFails) ≡ seen.cut None)
    × ((left : List ℕ) → let with_fault = seen.cut (Some (SaveFails left)) in
    (with_fault ≡ seen.cut None) ⊎ EndsByFault (SaveFails left) (seen.cut None).drive with_fault)

-- A program that goes on has met no fault: it is the program without them.
abbrev pub without_faults : Script → Script
without_faults [] = []
without_faults (OneUnit fault ∷ rest) = OneUnit None ∷ without_faults rest
without_faults (turn ∷ rest) = turn ∷ without_faults rest

-- a program that goes on has met no fault, so it goes on as the same script does without them
abbrev pub GoesOnWithoutFaults : Type 0
GoesOnWithoutFaults = (s : Start) (script : Script) (seen : Standing) → run script s ≡ NotEnded seen
    → (more : Script) → run (without_faults script ++ more) s ≡ run (script ++ more) s
