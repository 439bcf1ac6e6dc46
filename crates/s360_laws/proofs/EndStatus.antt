-- Each ending has channel end, and device end unless the arm still moves.
use Rattle.std.proofs.Common.{arith, ◌≡◌, ℕ, refl, subst, [], Option, Some, None}
use Rattle.s360_words.specs.declared.flags.ChannelStatus.{ChannelStatus}
use Rattle.s360_words.specs.declared.flags.TheConstants.ChannelStatus.{PROGRAM_CHECK}
use Rattle.s360_words.specs.declared.words.Csw.{Csw}
use Rattle.ckd_command.specs.Drive.{Closed, Fault, Rejected, Immediate, Started, begin, look, Failed, Passed, Ready, begin_program}
use Rattle.s360_laws.specs.Endings.{untouched, Ending, ending, Standing, Outcome, Ended, NotEnded}
use Rattle.s360_laws.specs.Laws.{IsEnd, EndingIsEnd, CutIsEnd}
use Rattle.s360_laws.specs.Places.{Place}
use Rattle.s360_laws.specs.Runs.{Start, run, first_place, start_point}
use Rattle.s360_laws.specs.Scripts.{Script}
use Rattle.s360_laws.specs.Status.{no_unit_status}
use Rattle.s360_laws.specs.Units.{ProgramPhase, Between, Looking, Moving, standing_in, unit}
use Rattle.s360_laws.proofs.DriveFacts.{close_end, immediate_end, settle_end}
use Rattle.s360_laws.proofs.Units.{NextHas, OpenIs, BegunIs, LookIs, phase_holds, walk_holds, run_holds}

abbrev IsClosed : Closed → Type 0
IsClosed c = IsEnd c.unit c.motion

abbrev pub IsGood : Ending → Type 0
IsGood e = IsEnd e.csw.unit e.motion

good_ending : (f : Option Fault) (key : ℕ) (p : Place) (c : Closed) (channel : ChannelStatus) → IsClosed c
    → IsGood (ending f key p c channel)
good_ending f key p c channel h = let g = settle_end f c h in record { channel_end = g.channel_end; device_end = g.device_end }

-- what a unit and a cut close
open_closes : (f : Option Fault) (g : ProgramPhase) → OpenIs IsClosed (λ s. Unit {0}) f g
open_closes f (Moving o t) = close_end f o t.bytes
open_closes f (Between p) = λ code. elim (begin f code p.state) as (BegunIs IsClosed (λ s. Unit {0}))
    [ Rejected s ↦ record { channel_end = refl; device_end = refl } | Immediate s motion ↦ immediate_end s motion | Started o ↦ tt ]
open_closes f (Looking o r) = elim (look f o) as (LookIs IsClosed (λ s. Unit {0}) f)
    [ Failed s ↦ record { channel_end = refl; device_end = refl } | Passed o ↦ tt | Ready o ↦ (tt, close_end f o []) ]

-- Runs.

abbrev pub AsksGood : Option Csw → Type 0
AsksGood None = Unit {0}
AsksGood (Some csw) = csw.unit ≡ no_unit_status

abbrev pub StandingGood : Standing → Type 0
StandingGood s = ((f : Option Fault) → IsGood (s.cut f)) × AsksGood s.interruption

abbrev pub RunGood : Outcome → Type 0
RunGood (Ended used s e) = IsGood e
RunGood (NotEnded s) = StandingGood s

-- the CSW of an interruption that is asked for has no unit status
asks_good : (key : ℕ) (g : ProgramPhase) → AsksGood (standing_in key g).interruption
asks_good key g = grind arith

-- of a unit, and of a cut in its place
good_phase : (f : Option Fault) (key : ℕ) (g : ProgramPhase) → NextHas (λ s. Unit {0}) IsGood (unit f key g)
    × IsGood ((standing_in key g).cut f)
good_phase f key g = phase_holds IsClosed (λ s. Unit {0}) IsGood f key (λ c h. tt) (good_ending f key) g (record {
  channel_end =
      refl;
  device_end = refl;
}) tt (open_closes f g)

pub good_run : (s : Start) (script : Script) → RunGood (run script s)
good_run s script = run_holds {P = λ key g. Unit {0}} {E = λ st. IsGood} RunGood s script
    (good_ending None 0 (first_place 0) (untouched (begin_program s.drive)) PROGRAM_CHECK (record {
      channel_end = refl;
      device_end =
          refl;
    }))
    (record { stands = λ key g h. (λ f. (good_phase f key g).1, asks_good key g); ends = λ used st e h. h })
    (λ caw at. walk_holds (λ g. Unit {0}) (λ st. IsGood) caw.key (λ turn g h. tt) (λ f g h. (good_phase f caw.key g).0) script
    (Between (start_point caw s)) tt)

pub ending_is_end : EndingIsEnd
ending_is_end s script used storage e h = subst RunGood h (good_run s script)

pub cut_is_end : CutIsEnd
cut_is_end s script seen fault h = (subst RunGood h (good_run s script)).0 fault
