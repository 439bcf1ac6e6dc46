-- A fault that is met ends the program, and is reported; at most one slot is lost; and it is met exactly where the call is made.
use Rattle.std.proofs.Common.{◌≡◌, ◌+◌, ℕ, suc, refl, sym, ap, subst, ◌∙◌, arith, true, false, Bool, cond, not, ◌&&◌, ◌||◌, List, [], ◌∷◌}
use Rattle.std.proofs.Common.{◌++◌, Option, Some, None, ◌⊎◌, inl, inr}
use Rattle.std.specs.Prelude.{◌==◌, bit_and}
use Rattle.std.proofs.Math.Bool.{and-false}
use Rattle.std.proofs.lemmas.Bool.{eqb-true, not-false}
use Rattle.std.proofs.lemmas.Nat.{and_or_apart}
use Rattle.s360_words.specs.Storage.{Storage}
use Rattle.s360_words.specs.Words.{has, chains_command}
use Rattle.s360_words.specs.declared.flags.ChannelStatus.{ChannelStatus}
use Rattle.s360_words.specs.declared.flags.TheConstants.ChannelStatus.{INCORRECT_LENGTH, PROGRAM_CHECK}
use Rattle.s360_words.specs.declared.flags.TheConstants.UnitStatus.{UNIT_CHECK}
use Rattle.s360_words.specs.declared.flags.UnitStatus.{UnitStatus}
use Rattle.ckd_command.specs.Answers as answer
use Rattle.ckd_command.specs.Commands.{beginning}
use Rattle.ckd_command.specs.Drive.{Fault, Closed, begun, looked, track_under, with_registers, close, Open, look, AfterLook, State, Failed}
use Rattle.ckd_command.specs.Drive.{Passed, Ready, AfterBegin, Rejected, Immediate, Started, begin, is_written, settled, LoadFails}
use Rattle.ckd_command.specs.Drive.{SaveFails, with_unit_check}
use Rattle.ckd_command.proofs.Arms.{AtSameTrack, BeginsAt, SightAt, beginning_at, sight_at}
use Rattle.s360_laws.specs.Commands.{Ends, choice, past_modifier, Point, Chains, completed, goes_on_chaining, length_status, requested}
use Rattle.s360_laws.specs.Endings.{Ending, ending, settled_ending, failed, immediate, untouched, closed_by_cut}
use Rattle.s360_laws.specs.Faults.{NextByFault, FaultEndsUnit, FaultEndsPhase, FaultEndsCut, FaultEndsProgram, OutcomeByFault, cut_drive}
use Rattle.s360_laws.specs.Faults.{without_faults, GoesOnWithoutFaults}
use Rattle.s360_laws.specs.Laws.{IsEnd}
use Rattle.s360_laws.specs.Places.{Place, fetch, Fetched, NoCcw, TransferTo, GoodCcw, past_no_ccw}
use Rattle.s360_laws.specs.Runs.{Start, run, start_point}
use Rattle.s360_laws.specs.Scripts.{Script, OneUnit, units_in}
use Rattle.s360_laws.specs.Status.{tells, beside, with_interruption, no_channel_status}
use Rattle.s360_laws.specs.StoreCalls.{closing_of, ends_written_begun, ends_written_by, ends_written_fetched, ends_written_looked}
use Rattle.s360_laws.specs.StoreCalls.{ends_written_moved, leaves_fetched, leaves_moved, meets, saves_by_cut}
use Rattle.s360_laws.specs.Transfers.{Request, Transfer, request_of, Stops, TransferUnit, Moves, Completes, transfer_unit, first_transfer}
use Rattle.s360_laws.specs.Units.{unit, Next, EndsIn, next_chosen, next_moved, next_looked, next_begun, next_fetched, Between, Looking}
use Rattle.s360_laws.specs.Units.{Moving, ProgramPhase, standing_in, state_in, StandsAt, outcome_of, on_next, walk, GoesOn, StandsIn}
use Rattle.s360_laws.specs.Units.{phase_past, Walk}
use Rattle.s360_laws.proofs.DriveFacts.{Fails, FailsOr, StaysWritten, begin_fails, close_end, close_fails, close_none, close_stays}
use Rattle.s360_laws.proofs.DriveFacts.{empty_stays, if_save, immediate_end, joins_check, joins_end, look_fails, look_meets, lost_fails}
use Rattle.s360_laws.proofs.DriveFacts.{same_arm, saving_or, settle_again, sighted}
use Rattle.s360_laws.proofs.Units.{BegunIs, FitsCheck, NextIs, UnitIs, unit_is}
use Rattle.s360_laws.proofs.Standing.{stands_by_walk, stands_somewhere, goes_by, begins}
use Rattle.s360_laws.proofs.Walks.{units_in_two}

-- Incorrect length is never reported beside unit check.

no_length : (unit : UnitStatus) (asked : Bool) (channel : ChannelStatus) → tells unit UNIT_CHECK ≡ true → FitsCheck channel
    → has (with_interruption asked (beside unit channel)).0 0x40 ≡ false
no_length unit asked channel u h =
    go asked (beside unit channel) (ap (λ b. has (cond (b && (channel.0 == INCORRECT_LENGTH.0)) no_channel_status channel).0 0x40) u ∙ h)
  where
    go : (asked : Bool) (channel : ChannelStatus) → has channel.0 0x40 ≡ false → has (with_interruption asked channel).0 0x40 ≡ false
    go false channel h = h
    go true channel h = ap (λ n. not (n == 0)) (and_or_apart 0x40 0x80 channel.0 (eqb-true (bit_and channel.0 0x40) 0 (not-false _ h)))

-- the status of a command that is complete
length_fits : (o : Open) (t : Transfer) (c : Closed) → FitsCheck (length_status o t c)
length_fits o t c = grind arith

-- Endings by a fault.

-- what a call that failed leaves of the drive as a unit finds it
abbrev FailsIn : Fault → (key : ℕ) → ProgramPhase → State → Type 0
FailsIn f key g t = Fails f (cut_drive key g) (state_in g).registers t

-- where a fault is met in a unit, or a cut, the program ends by it; and where none is, the fault makes no difference
abbrev MetOr : (met : Bool) → Fault → (key : ℕ) → ProgramPhase → (Option Fault → Next) → Type 0
MetOr met f key g n = (met ≡ true → NextByFault f key g (n (Some f))) × (met ≡ false → n (Some f) ≡ n None)

-- what a program that ends needs to end by a failed save
record MayLose (key : ℕ) (g : ProgramPhase) (c : Closed) : Type 0 where
  slots : c.state.volume ≡ (cut_drive key g).volume
  ends : IsEnd c.unit c.motion
  stays : is_written c.state ≡ true → StaysWritten (state_in g).registers c

-- a drive that is as the unit found it
untouched_may : (key : ℕ) (g : ProgramPhase) → (state_in g).volume ≡ (cut_drive key g).volume → MayLose key g (untouched (state_in g))
untouched_may key g e = record {
  slots = e;
  ends = record { channel_end = refl; device_end = refl };
  stays =
      λ w. record { motion = refl; arm = same_arm (state_in g).registers };
}

-- a command that failed otherwise
failed_may : (key : ℕ) (g : ProgramPhase) (s : State) → s.volume ≡ (cut_drive key g).volume → AtSameTrack (state_in g).registers s.registers
    → MayLose key g (failed s)
failed_may key g s e k = record {
  slots = e;
  ends = record { channel_end = refl; device_end = refl };
  stays =
      λ w. record { motion = refl; arm = k };
}

module _ (f : Fault) (key : ℕ) (g : ProgramPhase) where
  -- a command that is closed as `d`, once its track is lost: its binders are the parts of the ending, and what it says of each
  ended_by : (s : Storage) (p : Place) (c d : Closed) (channel : ChannelStatus) → settled (Some f) c ≡ d → FitsCheck channel
      → IsEnd d.unit false → tells d.unit UNIT_CHECK ≡ true → d.motion ≡ false → FailsIn f key g d.state
      → NextByFault f key g (EndsIn s (ending (Some f) key p c channel))
  ended_by s p c d channel e l ends u m h = subst (λ d. NextByFault f key g (EndsIn s (settled_ending key p d channel))) (sym e) (
    record {
      ends = ends;
      unit_check = u;
      no_motion = m;
      no_incorrect_length = no_length d.unit p.interruption channel u l;
      equipment_check = h.equipment_check;
      slots = h.slots;
    },
    record { cylinder = h.arm.cylinder; head = h.arm.head },
  )

  -- a command that failed by the fault
  failed_ending : (s : Storage) (p : Place) (channel : ChannelStatus) (t : State) → FitsCheck channel → FailsIn f key g t
      → NextByFault f key g (EndsIn s (ending (Some f) key p (failed t) channel))
  failed_ending s p channel t l h =
      ended_by s p (failed t) (failed t) channel (settle_again f (failed t) (cut_drive key g) (state_in g).registers h) l
      (record { channel_end = refl; device_end = refl }) refl refl h

  -- it never chains
  failed_next : (r : Request) (channel : ChannelStatus) (t : State) → FitsCheck channel → FailsIn f key g t
      → NextByFault f key g (next_chosen (choice (Some f) key r (failed t) channel))
  failed_next r channel t l h = rw (and-false (chains_command r.ccw)) (failed_ending r.storage r.place channel t l h)

  -- a call of the drive that may fail, and what follows it
  call_met : {A : Type 0} (met ends : Bool) (fails : State → A) (call : Option Fault → A) (finish : Option Fault → A → Next)
      → FailsOr met f (cut_drive key g) (state_in g).registers fails call
      → ((t : State) → FailsIn f key g t → NextByFault f key g (finish (Some f) (fails t)))
      → MetOr ends f key g (λ x. finish x (call None)) → MetOr (met || ends) f key g (λ x. finish x (call x))
  call_met true ends fails call finish h failing staying = (λ w. let t = h.0 refl in rw t.1 (failing t.0 t.2), λ w. absurd (cc))
  call_met false ends fails call finish h failing staying = rw (h.1 refl) staying

unmet : (f : Fault) (key : ℕ) (g : ProgramPhase) (x : Next) → MetOr (if_save f false) f key g (λ f. x)
unmet f key g x = grind arith

-- a program that ends, and whose track is saved now
ended_met : (f : Fault) (key : ℕ) (g : ProgramPhase) (s : Storage) (p : Place) (channel : ChannelStatus) (c : Closed) → FitsCheck channel
    → MayLose key g c
    → MetOr (if_save f (is_written c.state)) f key g (λ x. EndsIn s (ending x key p c channel))
ended_met LoadFails key g s p channel c l m = (λ w. absurd (cc), λ w. refl)
ended_met (SaveFails left) key g s p channel c l m =
    let saved = saving_or left c.state (λ s. record c { state = s; unit = with_unit_check c.unit }) c in (
      λ w. let k = m.stays w in ended_by (SaveFails left) key g s p c _ channel (saved.0 w) l
          (rw k.motion at (joins_end c.unit c.motion m.ends)) (joins_check c.unit) k.motion (lost_fails left c.state _ _ m.slots k.arm),
      λ w. ap (λ c. EndsIn s (settled_ending key p c channel)) (saved.1 w),
    )

chosen_met : (f : Fault) (key : ℕ) (g : ProgramPhase) (r : Request) (channel : ChannelStatus) (c : Closed) → FitsCheck channel
    → MayLose key g c
    → MetOr (if_save f (ends_written_by r c channel)) f key g (λ x. next_chosen (choice x key r c channel))
chosen_met f key g r channel c l m = go (goes_on_chaining r c channel) (record {
  storage = r.storage;
  place = past_modifier r.place c;
  state = c.state;
})
  where
    go : (b : Bool) (q : Point) → MetOr (if_save f (not b && is_written c.state)) f key g
        (λ x. next_chosen (cond b (Chains q) (Ends r.storage (ending x key r.place c channel))))
    go true q = unmet f key g _
    go false q = ended_met f key g r.storage r.place channel c l m

if_save_or : (f : Fault) (a b : Bool) → (if_save f a || if_save f b) ≡ if_save f (a || b)
if_save_or f a b = grind arith

-- Units.

module _ (f : Fault) (key : ℕ) (g : ProgramPhase) where
  -- a command that is closed, and what follows it
  closed_met : (o : Open) (b : List ℕ) (finish : Option Fault → Closed → Next) (ends : Closed → Bool) → (close None o b).state.volume
      ≡ (cut_drive key g).volume → o.state.registers ≡ (state_in g).registers
      → ((t : State) → FailsIn f key g t → NextByFault f key g (finish (Some f) (failed t))) → ((c : Closed) → MayLose key g c
      → MetOr (if_save f (ends c)) f key g (λ x. finish x c))
      → MetOr (if_save f (((closing_of o b).moves_off && is_written o.state) || ends (close None o b))) f key g
      (λ x. finish x (close x o b))
  closed_met o b finish ends e r failing staying =
      let c = close None o b in
      let here : AtSameTrack (state_in g).registers o.state.registers = record {
        cylinder = ap (λ r. r.cylinder) r;
        head =
            ap (λ r. r.head) r;
      } in
      let may : MayLose key g c = record {
        slots = e;
        ends = close_end None o b;
        stays =
            λ w. subst (λ r. StaysWritten r c) r (close_stays o b w);
      } in
      rw (if_save_or f ((closing_of o b).moves_off && is_written o.state) (ends c)) at
      (call_met f key g _ (if_save f (ends c)) failed (λ x. close x o b) finish (close_fails f o b (cut_drive key g)
      (state_in g).registers e here) failing (staying c may))

  moved_met : (o : Open) (t : Transfer) (u : TransferUnit) → UnitIs t u → (close None o t.bytes).state.volume ≡ (cut_drive key g).volume
      → o.state.registers ≡ (state_in g).registers
      → MetOr (if_save f ((leaves_moved o t u && is_written o.state) || ends_written_moved o t u)) f key g (λ x. next_moved x key o t u)
  moved_met o t (Moves next) k e r = unmet f key g _
  moved_met o t (Stops next check) k e r =
      rw k.bytes (closed_met o t.bytes (λ x c. EndsIn next.storage (ending x key next.place c check)) (λ c. is_written c.state) e r
      (λ s. failed_ending f key g next.storage next.place check s k.fits) (λ c. ended_met f key g next.storage next.place check c k.fits))
  moved_met o t Completes k e r =
      closed_met o t.bytes (λ x c. next_chosen (completed x key t o c)) (λ c. ends_written_by (request_of t) c (length_status o t c)) e r
      (λ s. failed_next f key g (request_of t) (length_status o t (failed s)) s (length_fits o t (failed s)))
      (λ c. chosen_met f key g (request_of t) (length_status o t c) c (length_fits o t c))

-- what a look that fails may lose; where it finds the area, the drive is as it was
abbrev LookMay : (key : ℕ) → Open → Request → AfterLook → Type 0
LookMay key o r (Failed s) = MayLose key (Looking o r) (failed s)
LookMay key o r (Passed p) = Unit {0}
LookMay key o r (Ready p) = p.state ≡ o.state

look_may : (key : ℕ) (o : Open) (r : Request) → LookMay key o r (look None o)
look_may key o r = go (sighted o) (sight_at o.state.volume.geometry (track_under o.state) o.opened o.state.registers)
  where
    go : (s : answer.Sight) → SightAt o.state.registers o.opened s → LookMay key o r (looked None o s)
    go (answer.Missed q) k = failed_may key (Looking o r) (with_registers o.state q) refl k
    go s k = grind arith

looked_met : (f : Fault) (key : ℕ) (o : Open) (r : Request) → MetOr (look_meets f o || if_save f (ends_written_looked key r (look None o)))
    f key (Looking o r) (λ x. next_looked x key r (look x o))
looked_met f key o r =
    call_met f key (Looking o r) (look_meets f o) _ Failed (λ x. look x o) (λ x. next_looked x key r) (look_fails f o)
    (λ t. failed_ending f key (Looking o r) r.storage r.place no_channel_status t refl) (staying (look None o) (look_may key o r))
  where
    -- where the head stays
    staying : (l : AfterLook) → LookMay key o r l → MetOr (if_save f (ends_written_looked key r l)) f key (Looking o r)
        (λ x. next_looked x key r l)
    staying (Failed s) k = ended_met f key (Looking o r) r.storage r.place no_channel_status (failed s) refl k
    staying (Passed p) k = unmet f key (Looking o r) _
    staying (Ready p) k =
        let t = first_transfer r in
        let u = transfer_unit key p t in
        rw (stays_here u) at (moved_met f key (Looking o r) p t u (unit_is key p t) ((close_none p).0 ∙ ap (λ s. s.volume) k)
        (ap (λ s. s.registers) k))
      where
        -- with no byte no command leaves its track
        stays_here : (u : TransferUnit) → (leaves_moved p (first_transfer r) u && is_written p.state) ≡ false
        stays_here u = grind (arith, empty_stays)

-- what a command that is over as it begins may lose
begin_may : (key : ℕ) (p : Point) (code : ℕ) → BegunIs (MayLose key (Between p)) (λ s. Unit {0}) (begin None code p.state)
begin_may key p code = go (beginning code p.state.registers) (beginning_at code p.state.registers)
  where
    go : (b : answer.Beginning) → BeginsAt p.state.registers b → BegunIs (MayLose key (Between p)) (λ s. Unit {0}) (begun None p.state b)
    go (answer.Rejected r) k = failed_may key (Between p) (with_registers p.state r) refl k
    go (answer.Immediate r) k = record { slots = refl; ends = immediate_end p.state false; stays = λ w. record { motion = refl; arm = k } }
    go (answer.ToCylinderZero r None) k = record { slots = refl; ends = immediate_end p.state true; stays = λ w. absurd (cc) }
    go b k = tt

fetched_met : (f : Fault) (key : ℕ) (p : Point) (w : Fetched)
    → MetOr (if_save f ((leaves_fetched p w && is_written p.state) || ends_written_fetched p w)) f key (Between p)
    (λ x. next_fetched x key p w)
fetched_met f key p NoCcw = ended_met f key (Between p) p.storage (past_no_ccw p.place) PROGRAM_CHECK (untouched p.state) refl
    (untouched_may key (Between p) refl)
fetched_met f key p (TransferTo address) = unmet f key (Between p) _
fetched_met f key p (GoodCcw ccw) =
    rw (if_save_or f _ (ends_written_begun r (begin None ccw.code p.state))) at
    (call_met f key (Between p) _ _ Rejected (λ x. begin x ccw.code p.state) (λ x. next_begun x key r) (begin_fails f ccw.code p.state)
    (λ t. failed_ending f key (Between p) p.storage r.place no_channel_status t refl) (staying (begin None ccw.code p.state)
    (begin_may key p ccw.code)))
  where
    r : Request
    r = requested p ccw

    staying : (b : AfterBegin) → BegunIs (MayLose key (Between p)) (λ s. Unit {0}) b → MetOr (if_save f (ends_written_begun r b)) f key
        (Between p) (λ x. next_begun x key r b)
    staying (Rejected s) k = ended_met f key (Between p) p.storage r.place no_channel_status (failed s) refl k
    staying (Immediate s motion) k = chosen_met f key (Between p) r no_channel_status (immediate s motion) refl k
    staying (Started o) k = unmet f key (Between p) _

-- a cut leaves the slots of the command closed by the bytes that passed
cut_slots : (o : Open) (b : List ℕ) → (close None o b).state.volume ≡ (closed_by_cut None o b).state.volume
cut_slots o b = grind (arith, close_none)

unit_met : (f : Fault) (key : ℕ) (g : ProgramPhase) → MetOr (meets f key g) f key g (λ x. unit x key g)
unit_met f key (Between p) = let h = fetched_met f key p (fetch p.storage p.place true) in (λ w. h.0 (grind arith), λ w. h.1 (grind arith))
unit_met f key (Looking o r) = let h = looked_met f key o r in (λ w. h.0 (grind arith), λ w. h.1 (grind arith))
unit_met f key (Moving o t) = let h = moved_met f key (Moving o t) o t (transfer_unit key o t) (unit_is key o t)
    (cut_slots o t.bytes) refl in (λ w. h.0 (grind arith), λ w. h.1 (grind arith))

pub fault_ends_unit : FaultEndsUnit
fault_ends_unit f key g = let h = unit_met f key g in record { met = h.0; not_met = h.1 }

-- the fault makes no difference to a unit, or to a cut; or the program ends by it
abbrev pub SameOr : Fault → (key : ℕ) → ProgramPhase → (Option Fault → Next) → Type 0
SameOr f key g n = (n (Some f) ≡ n None) ⊎ NextByFault f key g (n (Some f))

same_or : (met : Bool) (f : Fault) (key : ℕ) (g : ProgramPhase) (n : Option Fault → Next) → MetOr met f key g n → SameOr f key g n
same_or met f key g n h = grind arith

pub fault_or_not : (f : Fault) (key : ℕ) (g : ProgramPhase) → SameOr f key g (λ x. unit x key g)
fault_or_not f key g = same_or (meets f key g) f key g (λ x. unit x key g) (unit_met f key g)

-- Cuts.

-- a cut, as a unit that ends so
abbrev pub cut_next : (key : ℕ) → ProgramPhase → Option Fault → Next
cut_next key g x = EndsIn (standing_in key g).storage ((standing_in key g).cut x)

the_ending : {s : Storage} (a b : Ending) → EndsIn s a ≡ EndsIn s b → a ≡ b
the_ending a b h = cc

untouched_met : (f : Fault) (key : ℕ) (g : ProgramPhase) (s : Storage) (p : Place) → (state_in g).volume ≡ (cut_drive key g).volume
    → MetOr (if_save f (is_written (state_in g))) f key g (λ x. EndsIn s (ending x key p (untouched (state_in g)) no_channel_status))
untouched_met f key g s p e = ended_met f key g s p no_channel_status (untouched (state_in g)) refl (untouched_may key g e)

cut_met : (f : Fault) (key : ℕ) (g : ProgramPhase) → MetOr (if_save f (saves_by_cut g)) f key g (cut_next key g)
cut_met f key (Between p) = untouched_met f key (Between p) p.storage p.place refl
cut_met f key (Looking o r) = untouched_met f key (Looking o r) r.storage r.place refl
cut_met f key (Moving o t) = go t.bytes refl
  where
    go : (b : List ℕ) → t.bytes ≡ b
        → MetOr (if_save f (((closing_of o b).moves_off && is_written o.state) || is_written (closed_by_cut None o b).state)) f key
        (Moving o t)
        (λ x. EndsIn t.storage (ending x key t.place (closed_by_cut x o b) no_channel_status))
    go [] e = rw (empty_stays o) (untouched_met f key (Moving o t) t.storage t.place (ap (λ b. (closed_by_cut None o b).state.volume)
        (sym e)))
    go (x ∷ b) e =
        closed_met f key (Moving o t) o (x ∷ b) (λ x c. EndsIn t.storage (ending x key t.place c no_channel_status))
        (λ c. is_written c.state) (ap (λ b. (closed_by_cut None o b).state.volume) (sym e)) refl
        (λ s. failed_ending f key (Moving o t) t.storage t.place no_channel_status s refl)
        (λ c. ended_met f key (Moving o t) t.storage t.place no_channel_status c refl)

pub cut_or_not : (f : Fault) (key : ℕ) (g : ProgramPhase) → SameOr f key g (cut_next key g)
cut_or_not f key g = same_or _ f key g (cut_next key g) (cut_met f key g)

pub fault_ends_phase : FaultEndsPhase
fault_ends_phase f key g = let h = cut_met f key g in record {
  met = λ w. h.0 (grind arith);
  not_met =
      λ w. the_ending _ _ (h.1 (grind arith));
}

-- Runs.

pub fault_ends_cut : FaultEndsCut
fault_ends_cut s script seen h =
    let y = stands_somewhere s script seen h in
    rw y.3 (
      (fault_ends_phase LoadFails y.0 y.1).not_met refl,
      λ left. elim (cut_or_not (SaveFails left) y.0 y.1) [
        | inl h ↦ inl
            (the_ending _ _ h)
        | inr h ↦ inr h.0
      ],
    )

pub same_outcome : (a b : Script) (key : ℕ) (w : Walk) → units_in a ≡ units_in b → outcome_of a key w ≡ outcome_of b key w
same_outcome a b key w h = grind arith

-- over a unit with a fault, from where a program stands
pub run_by_fault : (s : Start) (script rest : Script) (f : Fault) (key : ℕ) (g : ProgramPhase) → StandsAt s script key g
    → (run (script ++ OneUnit (Some f) ∷ rest) s ≡ run (script ++ OneUnit None ∷ rest) s)
    ⊎ OutcomeByFault f (suc (units_in script)) (cut_drive key g) (run (script ++ OneUnit (Some f) ∷ rest) s)
run_by_fault s script rest f key g st = rw (st (OneUnit (Some f) ∷ rest), st (OneUnit None ∷ rest))
    (go (unit (Some f) key g) (fault_or_not f key g))
  where
    with_fault : Script
    with_fault = script ++ OneUnit (Some f) ∷ rest

    without : Script
    without = script ++ OneUnit None ∷ rest

    go : (x : Next) → (x ≡ unit None key g) ⊎ NextByFault f key g x
        → (outcome_of with_fault key (on_next rest x (walk rest key)) ≡ outcome_of without key (walk (OneUnit None ∷ rest) key g))
        ⊎ OutcomeByFault f (suc (units_in script)) (cut_drive key g) (outcome_of with_fault key (on_next rest x (walk rest key)))
    go x (inl e) = inl (ap (λ n. outcome_of with_fault key (on_next rest n (walk rest key))) e
        ∙ same_outcome with_fault without key (walk (OneUnit None ∷ rest) key g) (simp units_in_two))
    go (EndsIn st e) (inr h) = inr (omega (arith, units_in_two), h.0)
    go (GoesOn p) (inr h) = absurd h

pub fault_ends_program : FaultEndsProgram
fault_ends_program s script f seen h = let y = stands_somewhere s script seen h in rw y.3 (run_by_fault s script [] f y.0 y.1 y.2)

-- A program that goes on has met no fault.

-- a unit in which the program goes on is the unit without its fault
goes_unmet : (f : Option Fault) (key : ℕ) (g : ProgramPhase) → NextIs (λ p. unit None key g ≡ GoesOn p) (λ s e. Unit {0}) (unit f key g)
goes_unmet f key g = elim f as (λ f. NextIs (λ p. unit None key g ≡ GoesOn p) (λ s e. Unit {0}) (unit f key g)) [
  | None ↦ go LoadFails _
      (inl refl)
  | Some f ↦ go f _ (fault_or_not f key g)
]
  where
    go : (f : Fault) (n : Next) → (n ≡ unit None key g) ⊎ NextByFault f key g n
        → NextIs (λ p. unit None key g ≡ GoesOn p) (λ s e. Unit {0}) n
    go f n h = grind arith

-- so what holds where a program goes on without its fault holds where it goes on
pub unmet_holds : (P : ProgramPhase → Type 0) (f : Option Fault) (key : ℕ) (g : ProgramPhase) → NextIs P (λ s e. Unit {0}) (unit None key g)
    → NextIs P (λ s e. Unit {0}) (unit f key g)
unmet_holds P f key g h = (elim (unit f key g) as (λ n. NextIs (λ p. unit None key g ≡ GoesOn p) (λ s e. Unit {0}) n
    → NextIs P (λ s e. Unit {0}) n)
    [ GoesOn p ↦ λ same. subst (NextIs P (λ s e. Unit {0})) same h | EndsIn s e ↦ λ same. tt ]) (goes_unmet f key g)

pub unmet_walk : (script : Script) (key : ℕ) (g h : ProgramPhase) → walk script key g ≡ StandsIn h → walk (without_faults script) key g
    ≡ StandsIn h
unmet_walk [] key g h w = w
unmet_walk (OneUnit f ∷ rest) key g h w =
    (elim (unit f key g) as (λ n. NextIs (λ p. unit None key g ≡ GoesOn p) (λ s e. Unit {0}) n → on_next rest n (walk rest key) ≡ StandsIn h
    → walk (without_faults (OneUnit f ∷ rest)) key g ≡ StandsIn h)
    [ GoesOn p ↦ λ same w. rw same (unmet_walk rest key p h w) | EndsIn st e ↦ λ same w. absurd (cc) ]) (goes_unmet f key g) w
unmet_walk (turn ∷ rest) key g h w = unmet_walk rest key (phase_past turn g) h w

units_without : (script : Script) → units_in (without_faults script) ≡ units_in script
units_without [] = refl
units_without (OneUnit f ∷ rest) = ap (λ n. 1 + n) (units_without rest)
units_without (turn ∷ rest) = units_without rest

pub goes_on_without_faults : GoesOnWithoutFaults
goes_on_without_faults s script seen r more =
    let y = stands_by_walk s script seen r in
    let first = Between (start_point y.caw s) in
    let counts : units_in (without_faults script ++ more) ≡ units_in (script ++ more) = omega (arith, units_in_two, units_without script) in
    goes_by s [] (without_faults script) y.caw.key first y.phase (begins s y.caw y.is_caw)
    (unmet_walk script y.caw.key first y.phase y.walks) more
    ∙ same_outcome (without_faults script ++ more) (script ++ more) y.caw.key (walk more y.caw.key y.phase) counts
    ∙ sym (goes_by s [] script y.caw.key first y.phase (begins s y.caw y.is_caw) y.walks more)
