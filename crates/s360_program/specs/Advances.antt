-- What the calls of a running program come to: units of it, and its cut.
use Rattle.std.specs.Prelude.{◌≡◌, ◌⊎◌, ℕ, ◌+◌, ◌<◌, ◌≤◌, [], ◌∷◌, ◌++◌, Bool, true, false, Option, Some, None, is_some}
use Rattle.s360_words.specs.Storage.{Storage}
use Rattle.s360_words.specs.Words.{has}
use Rattle.s360_words.specs.declared.flags.TheConstants.ChannelStatus.{INCORRECT_LENGTH}
use Rattle.s360_words.specs.declared.flags.TheConstants.UnitStatus.{UNIT_CHECK}
use Rattle.s360_words.specs.declared.words.Csw.{Csw}
use Rattle.ckd_command.specs.Drive.{Fault, drive_of, is_written, unsaved, tells_equipment_check}
use Rattle.ckd_drive.specs.Work.{DriveState, is_idle}
use Rattle.s360_laws.specs.Endings.{Ending}
use Rattle.s360_laws.specs.Scripts.{units, OneUnit}
use Rattle.s360_laws.specs.Status.{tells}
use Rattle.s360_laws.specs.StoreCalls.{loads}
use Rattle.s360_laws.specs.Units.{ProgramPhase, walk, StandsIn, EndsWith, standing_in}
use Rattle.s360_laws.specs.Unsaved.{GainsNoCheck, has_written}
use Rattle.s360_program.specs.Stands.{RunningState, Stands, phase_in}
use Rattle.s360_program.specs.declared.program.Advance.{Advance}
use Rattle.s360_program.specs.declared.program.LongAdvance.{LongAdvance}

-- Faults.

-- a call met this fault: one exactly where the count of failures rose
abbrev pub IsMet : Option Fault → (old new : DriveState) → Type 0
IsMet None old new = new.image.failures ≡ old.image.failures
IsMet (Some f) old new = new.image.failures ≡ old.image.failures + 1

-- The end of a program.

-- a drive between two programs: no command is open, and no written track waits to be saved
pub record Rests (d : DriveState) : Type 0 where
  pub idle : is_idle d.work ≡ true
  pub unwritten : is_written d.state ≡ false

-- an ending leaves the drive so
pub record Leaves (e : Ending) (d : DriveState) : Type 0 where
  pub rests : Rests d
  pub drive : drive_of d.state ≡ e.drive
  pub unsaved : unsaved d.state ≡ e.unsaved
  pub slots : d.image.slots ≡ d.state.volume.slots

-- the CSW and the motion that are reported, and the drive that is left, are those of an ending
pub record IsEnding (e : Ending) (told : Csw × Bool) (d : DriveState) : Type 0 where
  pub csw : told.0 ≡ e.csw
  pub motion : told.1 ≡ e.motion
  pub drive : Leaves e d

-- Units.

-- the units that were asked for were done, and met no fault
pub record WentOn (key : ℕ) (before : ProgramPhase) (asked did : ℕ) (r : RunningState) (s : Storage)
    (old new : DriveState) : Type 0 where
  pub done : did ≡ asked
  pub failures : new.image.failures ≡ old.image.failures
  pub same_key : r.key ≡ key
  pub stands : Stands r new
  pub walk : walk (units did) key before ≡ StandsIn (phase_in r s new)

-- the last of the units that were done ended the program; it alone may have met a fault
pub record CameToEnd (key : ℕ) (before : ProgramPhase) (asked did : ℕ) (told : Csw × Bool) (s : Storage)
    (old new : DriveState) : Type 0 where
  pub done : did ≤ asked
  pub earlier : ℕ
  pub last : did ≡ earlier + 1
  pub fault : Option Fault
  pub met : IsMet fault old new
  pub ending : Ending
  pub walk : walk (units earlier ++ OneUnit fault ∷ []) key before ≡ EndsWith [] s ending
  pub is_ending : IsEnding ending told new

-- units that were asked for came to this, by how many were done and whether an ending is told
abbrev pub AdvancesTo : (key : ℕ) → ProgramPhase → (asked did : ℕ) → Option (Csw × Bool) → RunningState → Storage
    → (old new : DriveState) → Type 0
AdvancesTo key before asked did None r s old new = WentOn key before asked did r s old new
AdvancesTo key before asked did (Some told) r s old new = CameToEnd key before asked did told s old new

-- the same, by what an advance answers
abbrev pub Advances : (key : ℕ) → ProgramPhase → (asked : ℕ) → Advance → RunningState → Storage → (old new : DriveState)
    → Type 0
Advances key before asked a r s old new = AdvancesTo key before asked a.done a.ending r s old new

-- the same of more units than 16 bits count
abbrev pub RunsOn : (key : ℕ) → ProgramPhase → (asked : ℕ) → LongAdvance → RunningState → Storage → (old new : DriveState)
    → Type 0
RunsOn key before asked a r s old new = AdvancesTo key before asked a.done a.ending r s old new

-- A cut.

-- the program is over as its cut there reports
pub record Cuts (key : ℕ) (phase : ProgramPhase) (told : Csw × Bool × Option (ℕ × ℕ))
    (old new : DriveState) : Type 0 where
  pub fault : Option Fault
  pub met : IsMet fault old new
  pub is_ending : IsEnding ((standing_in key phase).cut fault) (told.0, told.1) new
  pub unsaved : told.2 ≡ ((standing_in key phase).cut fault).unsaved

-- Calls of the store, and what is reported of their faults.

-- at most so many loads and saves together
pub record CallsAtMost (most : ℕ) (old new : DriveState) : Type 0 where
  pub calls : new.image.loads + new.image.saves ≤ old.image.loads + old.image.saves + most
  pub lasting : new.image.lasting ≡ old.image.lasting
  pub geometry : new.image.geometry ≡ old.image.geometry

-- unit check without incorrect length, and equipment check in the sense
pub record TellsFault (csw : Csw) (d : DriveState) : Type 0 where
  pub unit_check : tells csw.unit UNIT_CHECK ≡ true
  pub length : has csw.channel.0 INCORRECT_LENGTH.0 ≡ false
  pub equipment_check : tells_equipment_check d.state.registers.sense ≡ true

-- the program is over, and its CSW tells of the fault
abbrev pub EndsWithFault : Option (Csw × Bool) → DriveState → Type 0
EndsWithFault None d = ⊥
EndsWithFault (Some told) d = TellsFault told.0 d

-- no track is reported as not saved, and equipment check is not gained
pub record TellsNoFault (old new : DriveState) : Type 0 where
  pub saved : unsaved new.state ≡ None
  pub no_check : GainsNoCheck (drive_of old.state) (drive_of new.state)

-- where a call of the store failed the program is over and reports it; where none did nothing is reported
pub record TellsOf (told : Option (Csw × Bool)) (old new : DriveState) : Type 0 where
  pub failed : (new.image.failures ≡ old.image.failures)
      ⊎ ((new.image.failures ≡ old.image.failures + 1) × EndsWithFault told new)
  pub good : new.image.failures ≡ old.image.failures → TellsNoFault old new

-- a cut whose saving failed reports the track too
pub record CutTellsOf (told : Csw × Bool × Option (ℕ × ℕ)) (old new : DriveState) : Type 0 where
  pub fault : TellsOf (Some (told.0, told.1)) old new
  pub unsaved : (new.image.failures ≡ old.image.failures) ⊎ (is_some told.2 ≡ true)

-- No call of the store where none is needed.

-- a unit looks for no area, and nothing is written before it
pub record NeedsNoStore (phase : ProgramPhase) : Type 0 where
  pub looks : loads phase ≡ false
  pub unwritten : has_written phase ≡ false

-- and so does each of so many units
abbrev pub NeedNoStore : (key : ℕ) → ProgramPhase → (did : ℕ) → Type 0
NeedNoStore key before did = (n : ℕ) (at : ProgramPhase) → n < did → walk (units n) key before ≡ StandsIn at
    → NeedsNoStore at
