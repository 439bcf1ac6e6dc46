-- Command by command and unit by unit a program goes the same way.
use Rattle.std.proofs.Common.{◌≡◌, ℕ, zero, suc, ◌+◌, ◌-◌, ◌<◌, ◌≤◌, refl, sym, ap, ◌∙◌, arith, true, [], ◌∷◌, ◌++◌, length, Option, Some}
use Rattle.std.proofs.Common.{None}
use Rattle.s360_words.specs.Storage.{Storage}
use Rattle.s360_words.specs.Words.{caw_of}
use Rattle.s360_words.specs.declared.words.Caw.{Caw}
use Rattle.ckd_command.specs.Drive.{AfterLook, look, Fault, Open, close, Ready, Failed, Passed, AfterBegin, Rejected, Immediate, Started}
use Rattle.ckd_command.specs.Drive.{begin}
use Rattle.s360_laws.specs.Commands.{Step, Spent, Ends, Over, command, after_look, after_move, Point, Goes, choice, Choice, chained, Chains}
use Rattle.s360_laws.specs.Commands.{completed, begun, fetched, requested}
use Rattle.s360_laws.specs.Endings.{Ending, immediate, Ended}
use Rattle.s360_laws.specs.Laws.{walked_on, WalkGoesOn, WalkEndsAtUnit, RunIsWalk, EndedStays}
use Rattle.s360_laws.specs.Places.{fetch, Fetched, NoCcw, TransferTo, past_transfer, GoodCcw}
use Rattle.s360_laws.specs.Runs.{commands, Start, outcome, run_from, start_point}
use Rattle.s360_laws.specs.Scripts.{Script, OneUnit, units_in}
use Rattle.s360_laws.specs.Status.{no_channel_status}
use Rattle.s360_laws.specs.Transfers.{looked, moved, Transfer, TransferUnit, on_unit, Moves, Stops, Completes, Request, on_look}
use Rattle.s360_laws.specs.Transfers.{first_transfer, transfer_unit}
use Rattle.s360_laws.specs.Units.{Walk, StandsIn, standing_in, EndsWith, ProgramPhase, Between, Looking, Moving, walk, on_next, next_chosen}
use Rattle.s360_laws.specs.Units.{unit, next_moved, next_looked, next_begun, next_fetched, phase_past, Next, GoesOn, EndsIn, outcome_of}

-- a walk as a step of commands
abbrev step_of : (key : ℕ) → Walk → Step
step_of key (StandsIn f) = Spent (standing_in key f)
step_of key (EndsWith rest s e) = Over rest s e

-- a script from here, command by command: what is left of the open one
abbrev resume : Script → (key : ℕ) → ProgramPhase → Step
resume script key (Between p) = command script key p
resume script key (Looking o p) = after_look key (looked script p o)
resume script key (Moving o p) = after_move key o (moved script key o p)

-- that from here a script is the same, whatever the number of commands
abbrev Same : Script → ℕ → Type 0
Same script key = (most : ℕ) (f : ProgramPhase) → length script ≤ most → commands most key (resume script key f)
    ≡ step_of key (walk script key f)

step_stays : (most key : ℕ) (w : Walk) → commands most key (step_of key w) ≡ step_of key w
step_stays most key w = grind arith

module _ (rest : Script) (key most : ℕ) (same : Same rest key) (h : length rest < most) where
  goes_on : (p : Point) → commands most key (Goes rest p) ≡ step_of key (walk rest key (Between p))
  goes_on p = (elim most as (λ most. length rest < most → commands most key (Goes rest p) ≡ step_of key (walk rest key (Between p)))
      [ zero ↦ λ h. absurd (omega arith) | suc most ↦ λ h. same most (Between p) (omega arith) ]) h

  by_choice : (c : Choice) → commands most key (chained rest c) ≡ step_of key (on_next rest (next_chosen c) (walk rest key))
  by_choice (Chains p) = goes_on p
  by_choice (Ends s e) = step_stays most key (EndsWith rest s e)

  by_unit : (f : Option Fault) (o : Open) (p : Transfer) (u : TransferUnit)
      → commands most key (after_move key o (on_unit f rest p u (moved rest key o))) ≡ step_of key (on_next rest (next_moved f key o p u)
      (walk rest key))
  by_unit f o p (Moves q) = same most (Moving o q) (omega arith)
  by_unit f o p (Stops q channel) = step_stays most key (EndsWith rest _ _)
  by_unit f o p Completes = by_choice (completed f key p o (close f o p.bytes))

  by_look : (f : Option Fault) (p : Request) (l : AfterLook) → commands most key (after_look key (on_look f rest p l (looked rest p)))
      ≡ step_of key (on_next rest (next_looked f key p l) (walk rest key))
  by_look f p (Ready o) = by_unit f o (first_transfer p) (transfer_unit key o (first_transfer p))
  by_look f p (Failed s) = step_stays most key (EndsWith rest _ _)
  by_look f p (Passed o) = same most (Looking o p) (omega arith)

  by_begun : (f : Option Fault) (r : Request) (b : AfterBegin) → commands most key (begun f rest key r b)
      ≡ step_of key (on_next rest (next_begun f key r b) (walk rest key))
  by_begun f r (Rejected state) = step_stays most key (EndsWith rest _ _)
  by_begun f r (Immediate state motion) = by_choice (choice f key r (immediate state motion) no_channel_status)
  by_begun f r (Started o) = same most (Looking o r) (omega arith)

  by_fetch : (f : Option Fault) (p : Point) (w : Fetched) → commands most key (fetched f rest key p w)
      ≡ step_of key (on_next rest (next_fetched f key p w) (walk rest key))
  by_fetch f p NoCcw = step_stays most key (EndsWith rest _ _)
  by_fetch f p (TransferTo address) = goes_on (record p { place = past_transfer p.place address })
  by_fetch f p (GoodCcw ccw) = by_begun f (requested p ccw) (begin f ccw.code p.state)

  by_phase : (f : Option Fault) (g : ProgramPhase) → commands most key (resume (OneUnit f ∷ rest) key g)
      ≡ step_of key (walk (OneUnit f ∷ rest) key g)
  by_phase f (Between p) = by_fetch f p (fetch p.storage p.place true)
  by_phase f (Looking o p) = by_look f p (look f o)
  by_phase f (Moving o p) = by_unit f o p (transfer_unit key o p)

pub same_way : (script : Script) (key : ℕ) → Same script key
same_way [] key most (Between p) h = step_stays most key (StandsIn (Between p))
same_way [] key most f h = step_stays most key (StandsIn f)
same_way (OneUnit a ∷ rest) key most f h = by_phase rest key most (same_way rest key) (omega arith) a f
same_way (turn ∷ rest) key most (Between p) h = same_way rest key most (phase_past turn (Between p)) (omega arith)
same_way (turn ∷ rest) key most f h = same_way rest key most (phase_past turn f) (omega arith)

-- A walk goes on where it stands.

pub walks_on : WalkGoesOn
walks_on [] more key f = refl
walks_on (OneUnit a ∷ rest) more key f = elim (unit a key f) as (λ x. on_next (rest ++ more) x (walk (rest ++ more) key)
    ≡ walked_on (on_next rest x (walk rest key)) key more)
    [ GoesOn g ↦ walks_on rest more key g | EndsIn s e ↦ refl ]
walks_on (turn ∷ rest) more key f = walks_on rest more key (phase_past turn f)

-- A walk that is over was over at its last unit, and not before.

abbrev pub Exact : Script → ℕ → ProgramPhase → Script → Storage → Ending → Type 0
Exact script key f rest s e = (front : Script) × (script ≡ front ++ rest) × (walk front key f ≡ EndsWith [] s e)

pub exact : WalkEndsAtUnit
exact [] key rest s e f h = absurd (cc)
exact (OneUnit a ∷ more) key rest s e f h = go (unit a key f) refl (exact more key rest s e) h
  where
    go : (x : Next) → unit a key f ≡ x → ((g : ProgramPhase) → walk more key g ≡ EndsWith rest s e → Exact more key g rest s e)
        → on_next more x (walk more key) ≡ EndsWith rest s e → Exact (OneUnit a ∷ more) key f rest s e
    go (GoesOn g) at by h = let r = by g h in (OneUnit a ∷ r.0, ap (λ l. OneUnit a ∷ l) r.1, rw at r.2)
    go (EndsIn t x) at by h = (OneUnit a ∷ [], cc, rw at (cc))
exact (turn ∷ more) key rest s e f h = let r = exact more key rest s e (phase_past turn f) h in (turn ∷ r.0, ap (λ l. turn ∷ l) r.1, r.2)

-- Runs by walks.

pub run_walk : (s : Start) (caw : Caw) (script : Script) → run_from script s (Some caw) ≡ outcome_of script caw.key
    (walk script caw.key (Between (start_point caw s)))
run_walk s caw script =
    let f = Between (start_point caw s) in
    let all : length script ≤ length script = omega arith in
    ap (outcome script caw.key) (same_way script caw.key (length script) f all)
    ∙ elim (walk script caw.key f) as (λ w. outcome script caw.key (step_of caw.key w) ≡ outcome_of script caw.key w)
    [ StandsIn g ↦ refl | EndsWith rest s e ↦ refl ]

pub run_is_walk : RunIsWalk
run_is_walk s caw script h = ap (run_from script s) h ∙ run_walk s caw script

pub units_in_two : (a b : Script) → units_in (a ++ b) ≡ units_in a + units_in b
units_in_two [] b = omega arith
units_in_two (OneUnit f ∷ a) b = let h = units_in_two a b in omega arith
units_in_two (turn ∷ a) b = units_in_two a b

-- a run that ended stays as it is
pub ended_stays : EndedStays
ended_stays s script more used storage e h = from (caw_of s.caw) h
  where
    go : (key : ℕ) (w : Walk) → outcome_of script key w ≡ Ended used storage e → outcome_of (script ++ more) key (walked_on w key more)
        ≡ Ended used storage e
    go key (StandsIn f) h = absurd (cc)
    go key (EndsWith rest t x) h = let same : units_in (script ++ more) - units_in (rest ++ more) ≡ units_in script - units_in rest =
        omega (arith, units_in_two) in ap (λ u. Ended u t x) same ∙ h

    from : (c : Option Caw) → run_from script s c ≡ Ended used storage e → run_from (script ++ more) s c ≡ Ended used storage e
    from None h = h
    from (Some caw) h =
        let p = Between (start_point caw s) in
        run_walk s caw (script ++ more) ∙ ap (outcome_of (script ++ more) caw.key) (walks_on script more caw.key p)
        ∙ go caw.key (walk script caw.key p) (sym (run_walk s caw script) ∙ h)
