-- Which tracks a channel program may write: all others keep their bytes.
use Rattle.std.specs.Prelude.{◌≡◌, ◌==◌, ◌&&◌, ◌||◌, ℕ, List, [], ◌∷◌, Bool, true, false, Option, Some, None, is_some, length, slice_get, if◌then◌else◌}
use Rattle.s360_words.specs.Storage.{Storage}
use Rattle.s360_words.specs.Words.{caw_of}
use Rattle.s360_words.specs.declared.words.Caw.{Caw}
use Rattle.ckd_command.specs.Drive.{Fault, Open, Volume, is_written, number_under}
use Rattle.s360_laws.specs.Endings.{Outcome, Ended, NotEnded}
use Rattle.s360_laws.specs.Runs.{Start, run, start_point}
use Rattle.s360_laws.specs.Scripts.{Script, OneUnit}
use Rattle.s360_laws.specs.StoreCalls.{closing_of, leaves}
use Rattle.s360_laws.specs.Transfers.{Completes, Transfer, TransferUnit, transfer_unit}
use Rattle.s360_laws.specs.Units.{Between, EndsIn, GoesOn, Moving, Next, ProgramPhase, StandsIn, phase_past, standing_in, state_in, unit, walk}
use Rattle.s360_laws.specs.Unsaved.{has_written}

-- the slot of a track, if there is one
abbrev pub slot_in : Volume → (track : ℕ) → Option (List ℕ)
slot_in v track = slice_get v.slots track

-- The next unit, or a cut in its place, may write the track under the arm alone; and only where that is written and not saved
-- since, or the open command is a write of which a byte has passed.
abbrev pub may_write : (track : ℕ) → ProgramPhase → Bool
may_write track phase = (number_under (state_in phase) == track) && has_written phase

-- the track keeps its slot behind a unit
abbrev pub NextKeeps : (track : ℕ) → Volume → Next → Type 0
NextKeeps track v (GoesOn next) = slot_in (state_in next).volume track ≡ slot_in v track
NextKeeps track v (EndsIn s e) = slot_in e.drive.volume track ≡ slot_in v track

-- With or without a fault.
pub record UnitKeeps (track key : ℕ) (phase : ProgramPhase) (fault : Option Fault) : Type 0 where
  pub by_unit : NextKeeps track (state_in phase).volume (unit fault key phase)
  pub by_cut : slot_in ((standing_in key phase).cut fault).drive.volume track ≡ slot_in (state_in phase).volume track

-- such a track keeps its slot, whatever unit comes and whatever fault it meets
abbrev pub WritesUnderArm : Type 0
WritesUnderArm = (s : Start) (caw : Caw) (script : Script) (phase : ProgramPhase) (fault : Option Fault) (track : ℕ)
    → walk script caw.key (Between (start_point caw s)) ≡ StandsIn phase
    → may_write track phase ≡ false → UnitKeeps track caw.key phase fault

-- Over a script: whether a unit of it, or a cut behind it, may write a track.

-- what is asked of the next phase, where the program goes on
abbrev pub on_going : Next → (ProgramPhase → Bool) → Bool
on_going (GoesOn phase) later = later phase
on_going (EndsIn s e) later = false

-- whether a unit of a walk, or a cut behind it, may write a track
abbrev pub walk_writes : (track : ℕ) → Script → (key : ℕ) → ProgramPhase → Bool
walk_writes track [] key phase = may_write track phase
walk_writes track (OneUnit fault ∷ rest) key phase = may_write track phase || on_going (unit fault key phase)
    (walk_writes track rest key)
walk_writes track (turn ∷ rest) key phase = walk_writes track rest key (phase_past turn phase)

-- whether a unit of a run, or a cut behind it, may write a track; a bad channel address word starts nothing
abbrev pub run_writes_from : (track : ℕ) → Script → Start → Option Caw → Bool
run_writes_from track script s None = false
run_writes_from track script s (Some caw) = walk_writes track script caw.key (Between (start_point caw s))

-- the same, by the channel address word of the start
abbrev pub run_writes : (track : ℕ) → Script → Start → Bool
run_writes track script s = run_writes_from track script s (caw_of s.caw)

-- A program keeps each track that none of its units may write, where it ends by itself and where it is cut.
abbrev pub OutcomeKeeps : (track : ℕ) → Volume → Outcome → Type 0
OutcomeKeeps track v (Ended used s e) = slot_in e.drive.volume track ≡ slot_in v track
OutcomeKeeps track v (NotEnded seen) = (fault : Option Fault) → slot_in (seen.cut fault).drive.volume track
    ≡ slot_in v track

-- a program keeps the slot of every track that none of its units may write
abbrev pub RunKeeps : Type 0
RunKeeps = (s : Start) (script : Script) (track : ℕ) → run_writes track script s ≡ false
    → OutcomeKeeps track s.drive.volume (run script s)

-- 'Written and not saved since', read off the units of a script alone.

-- whether a unit closes a command that has changed the track
abbrev pub writes_moved : Open → Transfer → TransferUnit → Bool
writes_moved o t Completes = is_some (closing_of o t.bytes).written
writes_moved o t unit = false

-- whether a unit closes a command that has changed the track
abbrev pub writes_in_unit : (key : ℕ) → ProgramPhase → Bool
writes_in_unit key (Moving o t) = writes_moved o t (transfer_unit key o t)
writes_in_unit key phase = false

-- a track that the arm or the head leaves is saved first
abbrev pub written_past : (key : ℕ) → ProgramPhase → (so_far : Bool) → Bool
written_past key phase so_far = if leaves key phase then false else (if writes_in_unit key phase then true else so_far)

-- whether the track is written and not saved at the end of a script, by its units alone
abbrev pub written_since : Script → (key : ℕ) → ProgramPhase → (so_far : Bool) → Bool
written_since [] key phase so_far = so_far
written_since (OneUnit fault ∷ rest) key phase so_far =
    on_going (unit fault key phase) (λ next. written_since rest key next (written_past key phase so_far))
written_since (turn ∷ rest) key phase so_far = written_since rest key (phase_past turn phase) so_far

-- The mark of the track under the arm is that: a unit has written it, and none since has left it.
abbrev pub MarkIsOfScript : Type 0
MarkIsOfScript = (script : Script) (key : ℕ) (phase last : ProgramPhase) → walk script key phase ≡ StandsIn last
    → is_written (state_in last) ≡ written_since script key phase (is_written (state_in phase))

-- Of storage a program changes bytes, and not their number.

-- a program keeps storage's size
abbrev pub OutcomeKeepsSize : Storage → Outcome → Type 0
OutcomeKeepsSize before (Ended used s e) = length s.bytes ≡ length before.bytes
OutcomeKeepsSize before (NotEnded seen) = length seen.storage.bytes ≡ length before.bytes

-- every run keeps storage's size
abbrev pub KeepsSize : Type 0
KeepsSize = (s : Start) (script : Script) → OutcomeKeepsSize s.storage (run script s)
