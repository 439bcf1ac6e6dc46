-- The laws of channel programs.
use Rattle.std.specs.Prelude.{◌≡◌, ◌⊎◌, ◌≤◌, ℕ, zero, suc, [], ◌++◌, Bool, true, not, Option, Some, length, if◌then◌else◌}
use Rattle.s360_words.specs.Storage.{Storage}
use Rattle.s360_words.specs.Words.{caw_of, has}
use Rattle.s360_words.specs.declared.flags.TheConstants.UnitStatus.{CHANNEL_END, DEVICE_END, UNIT_CHECK}
use Rattle.s360_words.specs.declared.flags.UnitStatus.{UnitStatus}
use Rattle.s360_words.specs.declared.words.Caw.{Caw}
use Rattle.ckd_command.specs.Drive.{Fault, Open}
use Rattle.s360_laws.specs.Endings.{Ending, Ended, Standing, NotEnded, Outcome, RunsOn}
use Rattle.s360_laws.specs.Runs.{Start, run, start_point}
use Rattle.s360_laws.specs.Scripts.{Script, units, units_in}
use Rattle.s360_laws.specs.Starts.{First, AcceptedStart, BadStart, ImmediateStart, RejectedStart, first}
use Rattle.s360_laws.specs.Status.{end_with_check, normal_end, tells}
use Rattle.s360_laws.specs.Transfers.{Transfer, transfer_unit, Moves, after_bytes, next_bytes}
use Rattle.s360_laws.specs.Units.{Walk, outcome_of, walk, Between, StandsIn, EndsWith, ProgramPhase, StandsAt, standing_in, Moving}

-- Runs and walks.

-- The run of a program, command by command, is its walk from the start, unit by unit.
abbrev pub RunIsWalk : Type 0
RunIsWalk = (s : Start) (caw : Caw) (script : Script) → caw_of s.caw ≡ Some caw
    → run script s ≡ outcome_of script caw.key (walk script caw.key (Between (start_point caw s)))

-- A walk goes on where it stands, and one that is over stays as it is.
abbrev pub walked_on : Walk → (key : ℕ) → Script → Walk
walked_on (StandsIn phase) key more = walk more key phase
walked_on (EndsWith rest s e) key more = EndsWith (rest ++ more) s e

-- a walk over two scripts, one behind the other, is the walk over the second from where the first led
abbrev pub WalkGoesOn : Type 0
WalkGoesOn = (script more : Script) (key : ℕ) (phase : ProgramPhase)
    → walk (script ++ more) key phase ≡ walked_on (walk script key phase) key more

-- A walk that is over was over at the last unit that it used.
abbrev pub WalkEndsAtUnit : Type 0
WalkEndsAtUnit = (script : Script) (key : ℕ) (rest : Script) (s : Storage) (e : Ending) (phase : ProgramPhase)
    → walk script key phase ≡ EndsWith rest s e
    → (used : Script) × (script ≡ used ++ rest) × (walk used key phase ≡ EndsWith [] s e)

-- A run that ended stays as it is, however the script goes on.
abbrev pub EndedStays : Type 0
EndedStays = (s : Start) (script more : Script) (used : ℕ) (storage : Storage) (e : Ending)
    → run script s ≡ Ended used storage e → run (script ++ more) s ≡ Ended used storage e

-- Where a program stands.

-- As it begins, a program stands at its first fetch.
abbrev pub StandsAtStart : Type 0
StandsAtStart = (s : Start) (caw : Caw) → caw_of s.caw ≡ Some caw
    → StandsAt s [] caw.key (Between (start_point caw s))

-- A program that has not ended stands in some phase, and what is seen of it is what is seen of the phase.
abbrev pub StandsSomewhere : Type 0
StandsSomewhere = (s : Start) (script : Script) (seen : Standing) → run script s ≡ NotEnded seen
    → (key : ℕ) × (phase : ProgramPhase) × StandsAt s script key phase × (seen ≡ standing_in key phase)

-- From where it stands a program goes on by any walk: to the next phase,
abbrev pub StandsAfterWalk : Type 0
StandsAfterWalk = (s : Start) (script more : Script) (key : ℕ) (phase next : ProgramPhase)
    → StandsAt s script key phase → walk more key phase ≡ StandsIn next
    → StandsAt s (script ++ more) key next

-- or to its end.
abbrev pub EndsAfterWalk : Type 0
EndsAfterWalk = (s : Start) (script more : Script) (key : ℕ) (phase : ProgramPhase) (storage : Storage) (e : Ending)
    → StandsAt s script key phase → walk more key phase ≡ EndsWith [] storage e
    → run (script ++ more) s ≡ Ended (units_in (script ++ more)) storage e

-- Beginnings and endings.

-- What Start I/O makes of a start is the first unit of its run: a bad start where that unit ends with program check, a rejected
-- one where it ends with unit check, and one that is over at once where it ends with neither; else the program is accepted.
abbrev pub first_of : Outcome → First
first_of (NotEnded seen) = AcceptedStart
first_of (Ended used s e) =
    if has e.csw.channel.0 0x20 then BadStart
    else (if tells e.csw.unit UNIT_CHECK then RejectedStart e.drive else ImmediateStart e)

-- A bad start changes nothing. A rejected one ends with channel end, device end and unit check, one that is over at once with
-- channel end, and with or without device end; both in one unit, and without a change of storage.
abbrev pub IsFirstUnit : Start → First → Outcome → Type 0
IsFirstUnit s AcceptedStart o = RunsOn o
IsFirstUnit s BadStart o = (used : ℕ) × (e : Ending) × (o ≡ Ended used s.storage e) × (used ≤ 1) × (e.drive ≡ s.drive)
IsFirstUnit s (RejectedStart drive) o =
    (e : Ending) × (o ≡ Ended 1 s.storage e) × (e.csw.unit ≡ end_with_check) × (e.drive ≡ drive)
IsFirstUnit s (ImmediateStart e) o =
    (o ≡ Ended 1 s.storage e) × ((e.csw.unit ≡ CHANNEL_END) ⊎ (e.csw.unit ≡ normal_end))

-- what Start I/O makes of a start is its first unit, and that unit is so
pub record FirstUnit (s : Start) : Type 0 where
  pub first_is : first s ≡ first_of (run (units 1) s)
  pub unit_is : IsFirstUnit s (first s) (run (units 1) s)

-- what Start I/O makes of any start is its first unit
abbrev pub FirstIsUnit : Type 0
FirstIsUnit = (s : Start) → FirstUnit s

-- channel end, and device end unless the arm still moves
pub record IsEnd (unit : UnitStatus) (motion : Bool) : Type 0 where
  pub channel_end : tells unit CHANNEL_END ≡ true
  pub device_end : tells unit DEVICE_END ≡ not motion

-- So ends a program, by itself
abbrev pub EndingIsEnd : Type 0
EndingIsEnd = (s : Start) (script : Script) (used : ℕ) (storage : Storage) (e : Ending)
    → run script s ≡ Ended used storage e → IsEnd e.csw.unit e.motion

-- and by a cut.
abbrev pub CutIsEnd : Type 0
CutIsEnd = (s : Start) (script : Script) (seen : Standing) (fault : Option Fault)
    → run script s ≡ NotEnded seen → let e = seen.cut fault in IsEnd e.csw.unit e.motion

-- Bytes.

-- m bytes may move, one after another
abbrev pub MayMove : ℕ → (key : ℕ) → Open → Transfer → Type 0
MayMove zero key o t = Unit {0}
MayMove (suc m) key o t =
    (transfer_unit key o t ≡ Moves (after_bytes 1 o t)) × (length (next_bytes 1 o t) ≡ 1)
    × MayMove m key o (after_bytes 1 o t)

-- m bytes that may move one after another move at once, where nothing comes between their units
abbrev pub MoveAtOnce : Type 0
MoveAtOnce = (m key : ℕ) (rest : Script) (o : Open) (t : Transfer) → MayMove m key o t
    → walk (units m ++ rest) key (Moving o t) ≡ walk rest key (Moving o (after_bytes m o t))
