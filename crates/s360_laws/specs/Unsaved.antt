-- Which tracks a program may report as not saved, and that it reports none without a fault of the store.
use Rattle.std.specs.Prelude.{◌≡◌, ◌⊎◌, ℕ, List, [], true, false, Bool, ◌||◌, Option, None, is_some}
use Rattle.s360_words.specs.declared.words.Caw.{Caw}
use Rattle.ckd_command.specs.Drive.{IdleDrive, Open, state_of, Fault, close, is_written, is_write_command, tells_equipment_check}
use Rattle.s360_laws.specs.Endings.{Ending, Outcome, Ended, NotEnded}
use Rattle.s360_laws.specs.Faults.{without_faults}
use Rattle.s360_laws.specs.Runs.{Start, run, start_point}
use Rattle.s360_laws.specs.Scripts.{Script}
use Rattle.s360_laws.specs.Starts.{First, BadStart, RejectedStart, ImmediateStart, AcceptedStart, first}
use Rattle.s360_laws.specs.Units.{ProgramPhase, Between, Looking, Moving, Next, GoesOn, EndsIn, unit, walk, StandsIn, standing_in, state_in}

-- What a program has written.

-- whether the track under the arm is written and not saved since, by a command before, or by the open one where it is
-- closed with the bytes that have passed
abbrev pub has_written : ProgramPhase → Bool
has_written (Between p) = is_written p.state
has_written (Looking o r) = is_written (state_of o)
has_written (Moving o t) = is_written (state_of o) || is_written (close None o t.bytes).state

-- A program begins with nothing written; only a write of which a byte has passed writes a track; and what is written
-- behind a unit was written before it.
pub record WritesByCommands : Type 0 where
  pub at_start : (caw : Caw) (s : Start) → has_written (Between (start_point caw s)) ≡ false
  pub by_write : (o : Open) (bytes : List ℕ) → is_written (close None o bytes).state ≡ true
      → (is_written (state_of o) ≡ true) ⊎ ((is_write_command o ≡ true) × (bytes ≡ [] → ⊥))
  pub by_units : (s : Start) (caw : Caw) (script : Script) (phase next : ProgramPhase) (fault : Option Fault)
      → walk script caw.key (Between (start_point caw s)) ≡ StandsIn phase
      → unit fault caw.key phase ≡ GoesOn next → is_written (state_in next) ≡ true → has_written phase ≡ true

-- A track that is reported as not saved was written.

-- an ending that reports a track as not saved reports one that was written
abbrev pub TellsWritten : ProgramPhase → Ending → Type 0
TellsWritten phase e = is_some e.unsaved ≡ true → has_written phase ≡ true

-- a unit that ends the program reports a track as not saved only if it was written
abbrev pub NextTellsWritten : ProgramPhase → Next → Type 0
NextTellsWritten phase (GoesOn next) = Unit {0}
NextTellsWritten phase (EndsIn s e) = TellsWritten phase e

-- A track that a unit or a cut reports as not saved was written by the program, and not saved since.
abbrev pub UnsavedWasWritten : Type 0
UnsavedWasWritten = (s : Start) (caw : Caw) (script : Script) (phase : ProgramPhase) (fault : Option Fault)
    → walk script caw.key (Between (start_point caw s)) ≡ StandsIn phase
    → NextTellsWritten phase (unit fault caw.key phase)
    × TellsWritten phase ((standing_in caw.key phase).cut fault)

-- Without faults.

-- the sense gains no equipment check
abbrev pub GainsNoCheck : (before after : IdleDrive) → Type 0
GainsNoCheck before after = tells_equipment_check before.sense ≡ false → tells_equipment_check after.sense ≡ false

-- no track is reported as not saved, and the sense gains no equipment check
pub record TellsNoFault (before : IdleDrive) (e : Ending) : Type 0 where
  pub saved : e.unsaved ≡ None
  pub no_check : GainsNoCheck before e.drive

-- the end of a run, or the cut where it stands, reports no track and gains no equipment check
abbrev pub OutcomeTellsNoFault : IdleDrive → Outcome → Type 0
OutcomeTellsNoFault before (Ended used s e) = TellsNoFault before e
OutcomeTellsNoFault before (NotEnded seen) = TellsNoFault before (seen.cut None)

-- what Start I/O makes of a start reports no track and gains no equipment check
abbrev pub FirstTellsNoFault : IdleDrive → First → Type 0
FirstTellsNoFault before (RejectedStart drive) = GainsNoCheck before drive
FirstTellsNoFault before (ImmediateStart e) = TellsNoFault before e
FirstTellsNoFault before BadStart = Unit {0}
FirstTellsNoFault before AcceptedStart = Unit {0}

-- A program that meets no fault reports none: where it ends by itself, where it is cut, and where it is rejected at its
-- start.
abbrev pub NoFaultNothingTold : Type 0
NoFaultNothingTold = (s : Start) (script : Script)
    → OutcomeTellsNoFault s.drive (run (without_faults script) s) × FirstTellsNoFault s.drive (first s)
