-- What holds of a program from unit to unit: one analysis of a unit for all such properties, and one induction over scripts.
use Rattle.std.proofs.Common.{arith, ◌≡◌, ℕ, refl, true, false, Bool, cond, not, ◌&&◌, [], ◌∷◌, length, Option, Some, None}
use Rattle.std.proofs.lemmas.Bool.{cond_both}
use Rattle.s360_words.specs.Storage.{Storage}
use Rattle.s360_words.specs.Words.{caw_of, has, skips}
use Rattle.s360_words.specs.declared.flags.ChannelStatus.{ChannelStatus}
use Rattle.s360_words.specs.declared.flags.TheConstants.ChannelStatus.{PROGRAM_CHECK}
use Rattle.s360_words.specs.declared.words.Caw.{Caw}
use Rattle.s360_words.proofs.Overwriting.{length-overwritten}
use Rattle.ckd_command.specs.Drive.{AfterBegin, AfterLook, Closed, Failed, Fault, Immediate, Open, Passed, Ready, Rejected, Started, State}
use Rattle.ckd_command.specs.Drive.{begin, close, gives, look, state_of}
use Rattle.s360_laws.specs.Commands.{choice, length_status, requested}
use Rattle.s360_laws.specs.Endings.{Ended, Ending, NotEnded, Outcome, closed_by_cut, ending, failed, immediate, untouched}
use Rattle.s360_laws.specs.Faults.{without_faults}
use Rattle.s360_laws.specs.Places.{Fetched, GoodCcw, NoCcw, Place, TransferTo, fetch, past_no_ccw}
use Rattle.s360_laws.specs.Runs.{Start, run, run_from, start_point}
use Rattle.s360_laws.specs.Scripts.{OneUnit, Script, Turn}
use Rattle.s360_laws.specs.Status.{beside, end_with_check, is_clear, no_channel_status}
use Rattle.s360_laws.specs.Transfers.{Completes, Moves, Request, Stops, Transfer, TransferUnit, after_bytes, chained_data, check_of}
use Rattle.s360_laws.specs.Transfers.{first_transfer, needs_byte, needs_ccw, next_bytes, request_of, transfer_unit}
use Rattle.s360_laws.specs.Units.{Between, EndsIn, EndsWith, GoesOn, Looking, Moving, Next, ProgramPhase, StandsIn, Walk, next_begun}
use Rattle.s360_laws.specs.Units.{next_chosen, next_fetched, next_looked, next_moved, on_next, outcome_of, phase_past, standing_in}
use Rattle.s360_laws.specs.Units.{state_in, unit, walk}
use Rattle.s360_laws.proofs.Walks.{run_walk}

-- Walks.

-- by a property of phases and one of endings
abbrev pub NextIs : (ProgramPhase → Type 0) → (Storage → Ending → Type 0) → Next → Type 0
NextIs P E (GoesOn g) = P g
NextIs P E (EndsIn s e) = E s e

abbrev pub WalkIs : (ProgramPhase → Type 0) → (Storage → Ending → Type 0) → Walk → Type 0
WalkIs P E (StandsIn g) = P g
WalkIs P E (EndsWith rest s e) = E s e

module _ (P : ProgramPhase → Type 0) (E : Storage → Ending → Type 0) (key : ℕ) (past : (turn : Turn) (g : ProgramPhase) → P g
    → P (phase_past turn g)) where
  next_holds : (rest : Script) (n : Next) → NextIs P E n → ((g : ProgramPhase) → P g → WalkIs P E (walk rest key g))
      → WalkIs P E (on_next rest n (walk rest key))
  next_holds rest n h k = grind arith

  -- what each unit and each other turn keeps, a walk keeps
  pub walk_holds : ((f : Option Fault) (g : ProgramPhase) → P g → NextIs P E (unit f key g)) → (script : Script) (g : ProgramPhase) → P g
      → WalkIs P E (walk script key g)
  walk_holds step [] g h = h
  walk_holds step (OneUnit f ∷ rest) g h = next_holds rest (unit f key g) (step f g h) (walk_holds step rest)
  walk_holds step (turn ∷ rest) g h = walk_holds step rest (phase_past turn g) (past turn g h)

  -- and so it is without faults
  pub plain_walk_holds : ((g : ProgramPhase) → P g → NextIs P E (unit None key g)) → (script : Script) (g : ProgramPhase) → P g
      → WalkIs P E (walk (without_faults script) key g)
  plain_walk_holds step [] g h = h
  plain_walk_holds step (OneUnit f ∷ rest) g h = next_holds (without_faults rest) (unit None key g) (step g h) (plain_walk_holds step rest)
  plain_walk_holds step (turn ∷ rest) g h = plain_walk_holds step rest (phase_past turn g) (past turn g h)

-- a property of outcomes is that of the phase in which a program stands, and that of the ending of one that is over
pub record OutcomeIs (P : ℕ → ProgramPhase → Type 0) (E : Storage → Ending → Type 0) (O : Outcome → Type 0) : Type 0 where
  pub stands : (key : ℕ) (g : ProgramPhase) → P key g → O (NotEnded (standing_in key g))
  pub ends : (used : ℕ) (st : Storage) (e : Ending) → E st e → O (Ended used st e)

-- what holds of a run that starts nothing, and of a walk from its start, holds of the run
pub run_holds : {P : (key : ℕ) → ProgramPhase → Type 0} {E : Storage → Ending → Type 0} (O : Outcome → Type 0) (s : Start) (script : Script)
    → O (run_from script s None) → OutcomeIs P E O
    → ((caw : Caw) → caw_of s.caw ≡ Some caw → WalkIs (P caw.key) E (walk script caw.key (Between (start_point caw s)))) → O (run script s)
run_holds {P} {E} O s script nothing is h = go (caw_of s.caw) refl
  where
    go : (c : Option Caw) → caw_of s.caw ≡ c → O (run_from script s c)
    go None at = nothing
    go (Some caw) at = rw (run_walk s caw script)
        ((elim (walk script caw.key (Between (start_point caw s))) as (λ w. WalkIs (P caw.key) E w
        → O (outcome_of script caw.key w)) [ StandsIn g ↦ is.stands caw.key g | EndsWith rest st e ↦ is.ends _ st e ]) (h caw at))

-- a turn that is no unit leaves the drive
pub past_state : (turn : Turn) (g : ProgramPhase) → state_in (phase_past turn g) ≡ state_in g
past_state turn g = grind arith

-- What a unit of moving bytes comes to.

-- channel status that has no incorrect length where it stands beside unit check
abbrev pub FitsCheck : ChannelStatus → Type 0
FitsCheck channel = has (beside end_with_check channel).0 0x40 ≡ false

-- a check stops a command with the bytes and the storage that it has
pub record StopsAt (t next : Transfer) (check : ChannelStatus) : Type 0 where
  pub bytes : next.bytes ≡ t.bytes
  pub storage : next.storage ≡ t.storage
  pub fits : FitsCheck check

-- and where no check stops it storage keeps its size
abbrev pub UnitIs : Transfer → TransferUnit → Type 0
UnitIs t (Stops next check) = StopsAt t next check
UnitIs t (Moves next) = length next.storage.bytes ≡ length t.storage.bytes
UnitIs t Completes = Unit {0}

pub unit_is : (key : ℕ) (o : Open) (t : Transfer) → UnitIs t (transfer_unit key o t)
unit_is key o t = go (needs_ccw t) (needs_byte o t) (is_clear (check_of key o t)) (fetch t.storage t.place false)
  where
    fits : FitsCheck (check_of key o t)
    fits = grind arith

    go : (a b c : Bool) (w : Fetched)
        → UnitIs t (cond a (chained_data t w) (cond b (cond c (Moves (after_bytes 1 o t)) (Stops t (check_of key o t))) Completes))
    go true b c NoCcw = record { bytes = refl; storage = refl; fits = refl }
    go true b c w = refl
    go false true true w = cond_both {A = Storage} (gives o && not (skips t.ccw)) _ _ (λ s. length s.bytes ≡ length t.storage.bytes)
        (λ e. length-overwritten t.storage.bytes t.address (next_bytes 1 o t)) (λ e. refl)
    go false true false w = record { bytes = refl; storage = refl; fits = fits }
    go false false c w = tt

-- A unit, by a property of commands that are closed and one of the drive where the program goes on.

abbrev pub BegunIs : (Closed → Type 0) → (State → Type 0) → AfterBegin → Type 0
BegunIs C Q (Rejected s) = C (failed s)
BegunIs C Q (Immediate s motion) = C (immediate s motion)
BegunIs C Q (Started o) = Q (state_of o)

-- where its area is found it goes on, or is closed with no byte
abbrev pub LookIs : (Closed → Type 0) → (State → Type 0) → Option Fault → AfterLook → Type 0
LookIs C Q f (Failed s) = C (failed s)
LookIs C Q f (Passed o) = Q (state_of o)
LookIs C Q f (Ready o) = Q (state_of o) × C (close f o [])

-- what the open command, or the next one, is to keep in a unit
abbrev pub OpenIs : (Closed → Type 0) → (State → Type 0) → Option Fault → ProgramPhase → Type 0
OpenIs C Q f (Between p) = (code : ℕ) → BegunIs C Q (begin f code p.state)
OpenIs C Q f (Looking o r) = LookIs C Q f (look f o)
OpenIs C Q f (Moving o t) = C (close f o t.bytes)

abbrev pub NextHas : (State → Type 0) → (Ending → Type 0) → Next → Type 0
NextHas Q E n = NextIs (λ g. Q (state_in g)) (λ s e. E e) n

module _ (C : Closed → Type 0) (Q : State → Type 0) (E : Ending → Type 0) (f : Option Fault) (key : ℕ) (goes : (c : Closed) → C c
    → Q c.state)
    (ends : (p : Place) (c : Closed) (channel : ChannelStatus) → C c → E (ending f key p c channel)) where
  pub choice_holds : (r : Request) (c : Closed) (channel : ChannelStatus) → C c → NextHas Q E (next_chosen (choice f key r c channel))
  choice_holds r c channel h = let next = goes c h in let end = ends r.place c channel h in grind arith

  pub begun_holds : (r : Request) (b : AfterBegin) → BegunIs C Q b → NextHas Q E (next_begun f key r b)
  begun_holds r (Rejected s) h = ends r.place (failed s) no_channel_status h
  begun_holds r (Immediate s motion) h = choice_holds r (immediate s motion) no_channel_status h
  begun_holds r (Started o) h = h

  pub moved_holds : (o : Open) (t : Transfer) (u : TransferUnit) → UnitIs t u → Q (state_of o) → C (close f o t.bytes)
      → NextHas Q E (next_moved f key o t u)
  moved_holds o t (Moves next) e h k = h
  moved_holds o t (Stops next check) e h k = ends next.place (close f o next.bytes) check (rw e.bytes k)
  moved_holds o t Completes e h k = choice_holds (request_of t) (close f o t.bytes) (length_status o t (close f o t.bytes)) k

  pub looked_holds : (r : Request) (l : AfterLook) → LookIs C Q f l → NextHas Q E (next_looked f key r l)
  looked_holds r (Failed s) h = ends r.place (failed s) no_channel_status h
  looked_holds r (Passed o) h = h
  looked_holds r (Ready o) h = let t = first_transfer r in moved_holds o t (transfer_unit key o t) (unit_is key o t) h.0 h.1

  unit_holds : (g : ProgramPhase) → C (untouched (state_in g)) → Q (state_in g) → OpenIs C Q f g → NextHas Q E (unit f key g)
  unit_holds (Looking o r) c q h = looked_holds r (look f o) h
  unit_holds (Moving o t) c q h = moved_holds o t (transfer_unit key o t) (unit_is key o t) q h
  unit_holds (Between p) c q h = elim (fetch p.storage p.place true) as (λ w. NextHas Q E (next_fetched f key p w)) [
    | NoCcw ↦ ends (past_no_ccw p.place) (untouched p.state) PROGRAM_CHECK c
    | TransferTo address ↦ q
    | GoodCcw ccw ↦ begun_holds
        (requested p ccw) (begin f ccw.code p.state) (h ccw.code)
  ]

  cut_holds : (g : ProgramPhase) → C (untouched (state_in g)) → OpenIs C Q f g → E ((standing_in key g).cut f)
  cut_holds (Between p) c h = ends p.place (untouched p.state) no_channel_status c
  cut_holds (Looking o r) c h = ends r.place (untouched (state_of o)) no_channel_status c
  cut_holds (Moving o t) c h =
      ends t.place (closed_by_cut f o t.bytes) no_channel_status
      ((elim t.bytes as (λ b. C (close f o b) → C (closed_by_cut f o b)) [ [] ↦ λ h. c | x ∷ b ↦ λ h. h ]) h)

  -- what a phase keeps, in its unit and where it is cut
  pub phase_holds : (g : ProgramPhase) → C (untouched (state_in g)) → Q (state_in g) → OpenIs C Q f g → NextHas Q E (unit f key g)
      × E ((standing_in key g).cut f)
  phase_holds g c q h = (unit_holds g c q h, cut_holds g c h)
