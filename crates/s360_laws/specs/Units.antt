-- The same program unit by unit: where it stands after each.
use Rattle.std.specs.Prelude.{◌≡◌, ℕ, ◌-◌, [], ◌∷◌, ◌++◌, true, Option}
use Rattle.s360_words.specs.Storage.{Storage}
use Rattle.s360_words.specs.declared.flags.TheConstants.ChannelStatus.{PROGRAM_CHECK}
use Rattle.ckd_command.specs.Drive.{State, AfterLook, Open, Fault, AfterBegin, Rejected, Immediate, Started, begin, close, look, Failed, Passed, Ready}
use Rattle.ckd_command.specs.Drive.{state_of}
use Rattle.s360_laws.specs.Commands.{Point, Ends, Choice, Chains, choice, requested, completed, point_past, standing_between}
use Rattle.s360_laws.specs.Endings.{Ending, ending, failed, immediate, untouched, standing, Standing, closed_by_cut, Outcome, NotEnded, Ended}
use Rattle.s360_laws.specs.Places.{fetch, Fetched, NoCcw, past_no_ccw, TransferTo, past_transfer, GoodCcw}
use Rattle.s360_laws.specs.Runs.{Start, run}
use Rattle.s360_laws.specs.Scripts.{Turn, Script, OneUnit, units_in}
use Rattle.s360_laws.specs.Status.{no_channel_status}
use Rattle.s360_laws.specs.Transfers.{Request, Transfer, TransferUnit, Moves, Stops, Completes, first_transfer, transfer_unit, request_past, transfer_past}

-- What comes next: the fetch of a CCW that begins a command, a look for its area, or a unit of moving its bytes.
pub data ProgramPhase : Type 0 where
  Between : Point → ProgramPhase
  Looking : Open → Request → ProgramPhase
  Moving : Open → Transfer → ProgramPhase

-- the drive in a phase
abbrev pub state_in : ProgramPhase → State
state_in (Between p) = p.state
state_in (Looking o r) = state_of o
state_in (Moving o t) = state_of o

-- what one unit comes to
pub data Next : Type 0 where
  GoesOn : ProgramPhase → Next
  EndsIn : Storage → Ending → Next

-- what a unit comes to that ends a command
abbrev pub next_chosen : Choice → Next
next_chosen (Chains p) = GoesOn (Between p)
next_chosen (Ends s e) = EndsIn s e

-- what a unit comes to that begins a command
abbrev pub next_begun : Option Fault → (key : ℕ) → Request → AfterBegin → Next
next_begun fault key r (Rejected s) = EndsIn r.storage (ending fault key r.place (failed s) no_channel_status)
next_begun fault key r (Immediate s motion) = next_chosen (choice fault key r (immediate s motion) no_channel_status)
next_begun fault key r (Started o) = GoesOn (Looking o r)

-- what a unit comes to that fetches a CCW
abbrev pub next_fetched : Option Fault → (key : ℕ) → Point → Fetched → Next
next_fetched fault key p NoCcw =
    EndsIn p.storage (ending fault key (past_no_ccw p.place) (untouched p.state) PROGRAM_CHECK)
next_fetched fault key p (TransferTo address) = GoesOn (Between (record p { place = past_transfer p.place address }))
next_fetched fault key p (GoodCcw ccw) = next_begun fault key (requested p ccw) (begin fault ccw.code p.state)

-- what a unit comes to that moves a byte, or meets a check, or completes the command
abbrev pub next_moved : Option Fault → (key : ℕ) → Open → Transfer → TransferUnit → Next
next_moved fault key o t (Moves next) = GoesOn (Moving o next)
next_moved fault key o t (Stops next check) =
    EndsIn next.storage (ending fault key next.place (close fault o next.bytes) check)
next_moved fault key o t Completes = next_chosen (completed fault key t o (close fault o t.bytes))

-- what a unit comes to that looks for an area; where it finds it the unit moves a byte too
abbrev pub next_looked : Option Fault → (key : ℕ) → Request → AfterLook → Next
next_looked fault key r (Failed s) = EndsIn r.storage (ending fault key r.place (failed s) no_channel_status)
next_looked fault key r (Passed o) = GoesOn (Looking o r)
next_looked fault key r (Ready o) = let t = first_transfer r in next_moved fault key o t (transfer_unit key o t)

-- one unit, with the fault that the store then has
abbrev pub unit : Option Fault → (key : ℕ) → ProgramPhase → Next
unit fault key (Between p) = next_fetched fault key p (fetch p.storage p.place true)
unit fault key (Looking o r) = next_looked fault key r (look fault o)
unit fault key (Moving o t) = next_moved fault key o t (transfer_unit key o t)

-- the phase behind a turn that is no unit
abbrev pub phase_past : Turn → ProgramPhase → ProgramPhase
phase_past turn (Between p) = Between (point_past turn p)
phase_past turn (Looking o r) = Looking o (request_past turn r)
phase_past turn (Moving o t) = Moving o (transfer_past turn t)

-- a program over a script: the phase in which it stands then, or its end with what was left of the script
pub data Walk : Type 0 where
  StandsIn : ProgramPhase → Walk
  EndsWith : Script → Storage → Ending → Walk

-- what a walk comes to behind a unit
abbrev pub on_next : Script → Next → (ProgramPhase → Walk) → Walk
on_next rest (GoesOn phase) walk_on = walk_on phase
on_next rest (EndsIn s e) walk_on = EndsWith rest s e

-- a program over a script, unit by unit
abbrev pub walk : Script → (key : ℕ) → ProgramPhase → Walk
walk [] key phase = StandsIn phase
walk (OneUnit fault ∷ rest) key phase = on_next rest (unit fault key phase) (walk rest key)
walk (turn ∷ rest) key phase = walk rest key (phase_past turn phase)

-- what is seen of a phase
abbrev pub standing_in : (key : ℕ) → ProgramPhase → Standing
standing_in key (Between p) = standing_between key p
standing_in key (Looking o r) = standing key r.storage r.place (λ fault. untouched (state_of o))
standing_in key (Moving o t) = standing key t.storage t.place (λ fault. closed_by_cut fault o t.bytes)

-- and of a walk, over a script that ends with the one that was walked
abbrev pub outcome_of : Script → (key : ℕ) → Walk → Outcome
outcome_of script key (StandsIn phase) = NotEnded (standing_in key phase)
outcome_of script key (EndsWith rest s e) = Ended (units_in script - units_in rest) s e

-- After this script the program stands in this phase: its run over any longer script is the walk from there.
abbrev pub StandsAt : Start → Script → (key : ℕ) → ProgramPhase → Type 0
StandsAt s script key phase =
    (more : Script) → run (script ++ more) s ≡ outcome_of (script ++ more) key (walk more key phase)
