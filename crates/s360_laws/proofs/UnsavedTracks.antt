-- Which tracks a program may report as not saved, that it reports none without a fault of the store, and all that a failed load
-- leaves.
use Rattle.std.proofs.Common.{arith, ◌≡◌, ℕ, refl, subst, sym, ap, ◌∙◌, true, false, Bool, cond, ◌||◌, List, [], Option, Some, None, inl}
use Rattle.std.proofs.Common.{inr}
use Rattle.std.proofs.lemmas.Bool.{or_left, or_right}
use Rattle.std.specs.Prelude.{is_some}
use Rattle.s360_words.specs.declared.flags.ChannelStatus.{ChannelStatus}
use Rattle.s360_words.specs.declared.flags.TheConstants.ChannelStatus.{PROGRAM_CHECK}
use Rattle.s360_words.specs.declared.words.Caw.{Caw}
use Rattle.ckd_sense.specs.declared.sense_bytes.TheConstants.Sense.{ZERO, STORE_FAULT}
use Rattle.ckd_sense.specs.SenseBytes.{joined}
use Rattle.ckd_sense.specs.declared.sense_bytes.Sense.{Sense}
use Rattle.ckd_command.specs.Answers as answer
use Rattle.ckd_command.specs.Commands.{beginning}
use Rattle.ckd_command.specs.Drive.{Fault, LoadFails, IdleDrive, Closed, unsaved, close, Open, look, looked, AfterLook, State, Failed}
use Rattle.ckd_command.specs.Drive.{Passed, Ready, AfterBegin, Started, begin, begun, begin_program, state_of, is_written}
use Rattle.ckd_command.specs.Drive.{tells_equipment_check, track_under, with_store_fault}
use Rattle.ckd_command.specs.Tables.{aim}
use Rattle.ckd_command.specs.declared.tables.Aim.{Aim}
use Rattle.ckd_command.proofs.Arms.{BeginsAt, NoSenseFor, SightAt, beginning_at, sight_at}
use Rattle.ckd_command.proofs.Marks.{anywhere, never_both, LookFinds, look_finds, BegunTraces, begin_traces, LookTraces, look_traces}
use Rattle.ckd_command.proofs.Marks.{close_traces, close_writes, settle_traces, Calm, BegunCalm, begin_calm, LookCalm, look_calm}
use Rattle.ckd_command.proofs.Marks.{close_calm}
use Rattle.s360_laws.specs.Commands.{requested}
use Rattle.s360_laws.specs.Endings.{Outcome, ending, failed, untouched}
use Rattle.s360_laws.specs.Laws.{first_of}
use Rattle.s360_laws.specs.Faults.{FailedLoad, ended_by_load, without_faults}
use Rattle.s360_laws.specs.Places.{Place, fetch, Fetched, GoodCcw}
use Rattle.s360_laws.specs.Runs.{Start, start_point, run, first_place}
use Rattle.s360_laws.specs.Scripts.{Script, Turn, units}
use Rattle.s360_laws.specs.Status.{no_channel_status, with_interruption}
use Rattle.s360_laws.specs.StoreCalls.{is_next}
use Rattle.s360_laws.specs.Transfers.{Request, Transfer, TransferUnit, first_transfer, transfer_unit}
use Rattle.s360_laws.specs.Units.{unit, Next, EndsIn, Between, Looking, Moving, ProgramPhase, standing_in, walk, StandsIn, Walk, state_in}
use Rattle.s360_laws.specs.Units.{next_begun, next_fetched, next_looked, next_moved, phase_past}
use Rattle.s360_laws.specs.Unsaved.{has_written, WritesByCommands, TellsWritten, NextTellsWritten, UnsavedWasWritten, TellsNoFault}
use Rattle.s360_laws.specs.Unsaved.{OutcomeTellsNoFault, FirstTellsNoFault, NoFaultNothingTold}
use Rattle.s360_laws.proofs.DriveFacts.{close_none, look_loads, sighted}
use Rattle.s360_laws.proofs.FirstUnits.{first_is_unit}
use Rattle.s360_laws.proofs.FaultsMet.{unmet_holds, unmet_walk}
use Rattle.s360_laws.proofs.Units.{BegunIs, LookIs, NextHas, NextIs, OpenIs, WalkIs, past_state, phase_holds, plain_walk_holds, run_holds}
use Rattle.s360_laws.proofs.Units.{walk_holds}

-- Without faults.

-- what the sense reported before
abbrev Quiet : IdleDrive → Type 0
Quiet before = tells_equipment_check before.sense ≡ false

-- of a command that is closed
abbrev CalmClosed : IdleDrive → Closed → Type 0
CalmClosed before c = Calm (Quiet before) c.state

calm_ending : (before : IdleDrive) (key : ℕ) (p : Place) (c : Closed) (channel : ChannelStatus) → Calm (Quiet before) c.state
    → TellsNoFault before (ending None key p c channel)
calm_ending before key p c channel h = record { saved = h.saved; no_check = h.quiet }

calm_begun : (before : IdleDrive) (b : AfterBegin) → BegunCalm (Quiet before) b → BegunIs (CalmClosed before) (Calm (Quiet before)) b
calm_begun before b h = grind arith

calm_open : (before : IdleDrive) (g : ProgramPhase) → Calm (Quiet before) (state_in g)
    → OpenIs (CalmClosed before) (Calm (Quiet before)) None g
calm_open before (Between p) h = λ code. calm_begun before (begin None code p.state) (begin_calm (Quiet before) code p.state h)
calm_open before (Moving o t) h = close_calm (Quiet before) o t.bytes h
calm_open before (Looking o r) h = go (look None o) (look_calm (Quiet before) o h)
  where
    go : (l : AfterLook) → LookCalm (Quiet before) l → LookIs (CalmClosed before) (Calm (Quiet before)) None l
    go (Ready o) h = (h, close_calm (Quiet before) o [] h)
    go l h = h

-- in a unit, and in a cut in its place
calm_phase : (before : IdleDrive) (key : ℕ) (g : ProgramPhase) → Calm (Quiet before) (state_in g)
    → NextHas (Calm (Quiet before)) (TellsNoFault before) (unit None key g) × TellsNoFault before ((standing_in key g).cut None)
calm_phase before key g h = phase_holds (CalmClosed before) (Calm (Quiet before)) (TellsNoFault before) None key (λ c h. h)
    (calm_ending before key) g h h (calm_open before g h)

-- and in a walk
abbrev WalkCalm : IdleDrive → Walk → Type 0
WalkCalm before w = WalkIs (λ g. Calm (Quiet before) (state_in g)) (λ s. TellsNoFault before) w

calm_walk : (before : IdleDrive) (script : Script) (key : ℕ) (g : ProgramPhase) → Calm (Quiet before) (state_in g)
    → WalkCalm before (walk (without_faults script) key g)
calm_walk before script key g h = plain_walk_holds (λ g. Calm (Quiet before) (state_in g)) (λ s. TellsNoFault before) key
    (λ turn g h. rw (past_state turn g) h) (λ g h. (calm_phase before key g h).0) script g h

-- a program begins so
calm_start : (caw : Caw) (s : Start) → Calm (Quiet s.drive) (start_point caw s).state
calm_start caw s = record { saved = refl; quiet = λ q. q }

-- what a start tells is what the first unit of its run tells
calm_first : (before : IdleDrive) (o : Outcome) → OutcomeTellsNoFault before o → FirstTellsNoFault before (first_of o)
calm_first before o h = grind arith

pub no_fault_nothing_told : NoFaultNothingTold
no_fault_nothing_told s script = (told script, rw (first_is_unit s).first_is (calm_first s.drive (run (units 1) s) (told (units 1))))
  where
    told : (script : Script) → OutcomeTellsNoFault s.drive (run (without_faults script) s)
    told script = run_holds {P = λ key g. Calm (Quiet s.drive) (state_in g)} {E = λ st. TellsNoFault s.drive}
        (OutcomeTellsNoFault s.drive) s (without_faults script)
        (calm_ending s.drive 0 (first_place 0) (untouched (begin_program s.drive)) PROGRAM_CHECK (record { saved = refl; quiet = λ q. q }))
        (record { stands = λ key g h. (calm_phase s.drive key g h).1; ends = λ used st e h. h })
        (λ caw at. calm_walk s.drive script caw.key (Between (start_point caw s)) (calm_start caw s))

-- Where a program stands, nothing is lost.

pub stands_saved : (s : Start) (caw : Caw) (script : Script) (phase : ProgramPhase) → walk script caw.key (Between (start_point caw s))
    ≡ StandsIn phase → unsaved (state_in phase) ≡ None
stands_saved s caw script phase h =
    let first = Between (start_point caw s) in
    (subst (WalkCalm s.drive) (unmet_walk script caw.key first phase h) (calm_walk s.drive script caw.key first (calm_start caw s))).saved

-- What is lost or written behind a unit was written before it.

-- of a command that is closed, or is none
pub record ToldOf (written : Bool) (s : State) : Type 0 where
  pub lost : is_some (unsaved s) ≡ true → written ≡ true
  pub still : is_written s ≡ true → written ≡ true

told_ending : (w : Bool) (f : Option Fault) (key : ℕ) (p : Place) (c : Closed) (channel : ChannelStatus) → ToldOf w c.state
    → is_some (ending f key p c channel).unsaved ≡ true → w ≡ true
told_ending w f key p c channel h e = elim (settle_traces f c e) [ inl l ↦ h.lost l | inr l ↦ h.still l ]

-- without a byte
told_empty : (w : Bool) (f : Option Fault) (o : Open) → unsaved (state_of o) ≡ None → (is_written (state_of o) ≡ true → w ≡ true)
    → ToldOf w (close f o []).state
told_empty w f o e k = let h = close_traces f o [] e in record {
  lost = λ l. k (h.lost l);
  still =
      λ l. k (sym (close_none o).1 ∙ h.written l);
}

told_closed : (f : Option Fault) (o : Open) (b : List ℕ) → unsaved (state_of o) ≡ None
    → ToldOf (is_written (state_of o) || is_written (close None o b).state) (close f o b).state
told_closed f o b e =
    let h = close_traces f o b e in
    record {
      lost = λ l. or_left (is_written (state_of o)) (is_written (close None o b).state) (h.lost l);
      still =
          λ l. or_right (is_written (state_of o)) (is_written (close None o b).state) (h.written l);
    }

wrote_before : (g : ProgramPhase) → is_written (state_in g) ≡ true → has_written g ≡ true
wrote_before g h = grind arith

-- the drive as the unit finds it
told_here : (g : ProgramPhase) → unsaved (state_in g) ≡ None → ToldOf (has_written g) (state_in g)
told_here g e = record { lost = never_both (unsaved (state_in g)) e; still = wrote_before g }

-- where the program goes on
abbrev Still : Bool → State → Type 0
Still w s = is_written s ≡ true → w ≡ true

told_open : (f : Option Fault) (g : ProgramPhase) → unsaved (state_in g) ≡ None → OpenIs (λ c. ToldOf (has_written g) c.state)
    (Still (has_written g)) f g
told_open f (Moving o t) e = told_closed f o t.bytes e
told_open f (Between p) e = λ code. go (begin f code p.state) (begin_traces f code p.state e)
  where
    go : (b : AfterBegin) → BegunTraces p.state b → BegunIs (λ c. ToldOf (is_written p.state) c.state) (Still (is_written p.state)) b
    go (Started o) h = h.written
    go b h = record { lost = h.lost; still = h.written }
told_open f (Looking o r) e = go (look f o) (look_traces f o e) (look_finds f o e)
  where
    w : Bool
    w = is_written (state_of o)

    go : (l : AfterLook) → LookTraces (state_of o) l → LookFinds l → LookIs (λ c. ToldOf w c.state) (Still w) f l
    go (Failed s) h k = record { lost = h.lost; still = h.written }
    go (Passed p) h k = h.written
    go (Ready p) h k = (h.written, told_empty w f p k h.written)

told_phase : (f : Option Fault) (key : ℕ) (g : ProgramPhase) → unsaved (state_in g) ≡ None
    → NextHas (Still (has_written g)) (TellsWritten g) (unit f key g) × TellsWritten g ((standing_in key g).cut f)
told_phase f key g e =
    phase_holds (λ c. ToldOf (has_written g) c.state) (Still (has_written g)) (TellsWritten g) f key (λ c h. h.still)
    (told_ending (has_written g) f key) g (told_here g e) (wrote_before g) (told_open f g e)

next_tells : (g : ProgramPhase) (n : Next) → NextHas (Still (has_written g)) (TellsWritten g) n → NextTellsWritten g n
next_tells g n h = grind arith

pub unsaved_was_written : UnsavedWasWritten
unsaved_was_written s caw script phase f h =
    let told = told_phase f caw.key phase (stands_saved s caw script phase h) in (next_tells phase (unit f caw.key phase) told.0, told.1)

pub writes_by_commands : WritesByCommands
writes_by_commands = record {
  at_start = λ caw s. refl;
  by_write = close_writes;
  by_units = λ s caw script phase next f h e. subst (NextHas (Still (has_written phase)) (TellsWritten phase)) e
      (told_phase f caw.key phase (stands_saved s caw script phase h)).0;
}

-- What a failed load leaves.

-- While a command looks for its area the sense reports nothing, and its whole count is left.
abbrev Fresh : ProgramPhase → Type 0
Fresh (Looking o r) = NoSenseFor (aim o.opened.command) o.state.registers.sense × (r.place.residual ≡ r.ccw.count)
Fresh phase = Unit {0}

abbrev NextFresh : Next → Type 0
NextFresh n = NextIs Fresh (λ s e. Unit {0}) n

moved_fresh : (key : ℕ) (o : Open) (t : Transfer) (u : TransferUnit) → NextFresh (next_moved None key o t u)
moved_fresh key o t u = grind arith

unit_fresh : (key : ℕ) (g : ProgramPhase) → Fresh g → NextFresh (unit None key g)
unit_fresh key (Moving o t) h = moved_fresh key o t (transfer_unit key o t)
unit_fresh key (Looking o r) h = go (sighted o) (sight_at o.state.volume.geometry (track_under o.state) o.opened o.state.registers)
  where
    go : (s : answer.Sight) → SightAt o.state.registers o.opened s → NextFresh (next_looked None key r (looked None o s))
    go (answer.Found opened) k = let p : Open = record o { opened = opened } in
        moved_fresh key p (first_transfer r) (transfer_unit key p (first_transfer r))
    go s k = grind arith
unit_fresh key (Between p) h = fetched (fetch p.storage p.place true)
  where
    begun_fresh : (r : Request) (b : answer.Beginning) → r.place.residual ≡ r.ccw.count → BeginsAt p.state.registers b
        → NextFresh (next_begun None key r (begun None p.state b))
    begun_fresh r b e k = grind arith

    fetched : (w : Fetched) → NextFresh (next_fetched None key p w)
    fetched (GoodCcw ccw) = begun_fresh (requested p ccw) (beginning ccw.code p.state.registers) refl
        (beginning_at ccw.code p.state.registers)
    fetched w = tt

past_fresh : (turn : Turn) (g : ProgramPhase) → Fresh g → Fresh (phase_past turn g)
past_fresh turn g h = grind arith

stands_fresh : (s : Start) (caw : Caw) (script : Script) (g : ProgramPhase) → walk script caw.key (Between (start_point caw s)) ≡ StandsIn g
    → Fresh g
stands_fresh s caw script g h =
    rw h at (walk_holds Fresh (λ s e. Unit {0}) caw.key past_fresh (λ f g k. unmet_holds Fresh f caw.key g (unit_fresh caw.key g k)) script
    (Between (start_point caw s)) tt)

no_sense_before : (a : Aim) (sense : Sense) → is_next a ≡ true → NoSenseFor a sense → sense ≡ ZERO
no_sense_before a sense h n = grind arith

whole : (key : ℕ) (o : Open) (r : Request) → o.state.registers.sense ≡ ZERO → r.place.residual ≡ r.ccw.count → unsaved o.state ≡ None
    → ending (Some LoadFails) key r.place (failed (with_store_fault o.state)) no_channel_status ≡ ended_by_load key o r
whole key o r sense count saved =
    let told : joined o.state.registers.sense STORE_FAULT ≡ record { 0 = 0x1000 } = ap (λ n. joined n STORE_FAULT) sense in
    let lost : unsaved (with_store_fault o.state) ≡ None = anywhere o.state.mark o.state.registers _ saved in
    let asked : with_interruption r.place.interruption no_channel_status ≡ record { 0 = cond r.place.interruption 0x80 0x00 } =
    elim r.place.interruption as (λ b. with_interruption b no_channel_status ≡ record { 0 = cond b 0x80 0x00 })
    [ true ↦ refl | false ↦ refl ] in
    cc

pub failed_load : FailedLoad
failed_load s caw script o r h area =
    let fresh = stands_fresh s caw script (Looking o r) h in
    ap (next_looked (Some LoadFails) caw.key r) ((look_loads o).0 area)
    ∙ ap (EndsIn r.storage) (whole caw.key o r (no_sense_before (aim o.opened.command) o.state.registers.sense area fresh.0) fresh.1
    (stands_saved s caw script (Looking o r) h))
