-- The headline of this project in one place: what a channel and its drives do over every list of events, with or without faults of
-- the store.
use Rattle.std.specs.Prelude.{◌≡◌, ◌≤◌, ℕ, List, ◌++◌, true, false, Some, None}
use Rattle.s360_words.specs.declared.flags.TheConstants.UnitStatus.{CHANNEL_END, DEVICE_END}
use Rattle.s360_words.specs.declared.words.Csw.{Csw}
use Rattle.s360_laws.specs.Arms.{arm_along, arm_for}
use Rattle.s360_laws.specs.Events.{Event, Exchange, FaultAfter, Input}
use Rattle.s360_laws.specs.History.{all_acts, history, world_of}
use Rattle.s360_laws.specs.Ledger.{HeldAnswers, Pends, RefusesStarts, SinceAcceptance, is_accepted, since, times_stored}
use Rattle.s360_laws.specs.Machine.{Machine, Pending, after_all, exchanges, is_working, react}
use Rattle.s360_laws.specs.NothingTold.{NoneGainsCheck, TellsNoTrack}
use Rattle.s360_laws.specs.Soundness.{IsSound, arm_owes}
use Rattle.s360_laws.specs.Steps.{FaultDoes}
use Rattle.s360_laws.specs.declared.arm.Arm.{Arm}

-- at every moment of a list: of the events so far and their answers, the machine behind them, and the events still to come
abbrev pub AtEveryMoment : Machine → List Input → (List Exchange → Machine → List Input → Type 0) → Type 0
AtEveryMoment m es P = (so_far rest : List Input) → es ≡ so_far ++ rest
    → P (exchanges so_far m) (after_all so_far m) rest

-- For every list of starts, tests, halts, steps, arrivals, interruptions, resets, and stores and looks of the processor:
pub record Headline (m : Machine) (es : List Input) : Type 0 where
  -- no start is accepted while a program runs;
  pub no_start_while_running : AtEveryMoment m es (λ so_far now rest. is_working now.subchannel ≡ true
      → RefusesStarts now)
  -- each accepted program's channel end and device end are each stored at most once,
  pub ends_at_most_once : AtEveryMoment m es (λ so_far now rest.
      (u : ℕ) → (times_stored CHANNEL_END u so_far ≤ 1) × (times_stored DEVICE_END u so_far ≤ 1))
  -- exactly once between two acceptances for one device with no reset between,
  pub ends_exactly_once : AtEveryMoment m es (λ so_far now rest. (e : Input) (u : ℕ) → since u so_far ≡ SinceAcceptance
      → is_accepted u (e.0, e.1, (react e.0 e.1 now).0) ≡ true
      → (times_stored CHANNEL_END u so_far ≡ 1) × (times_stored DEVICE_END u so_far ≡ 1))
  -- the channel end not after the device end,
  pub channel_end_first : AtEveryMoment m es (λ so_far now rest. (u : ℕ) → since u so_far ≡ SinceAcceptance
      → times_stored DEVICE_END u so_far ≤ times_stored CHANNEL_END u so_far)
  -- and pend until then or a reset;
  pub ends_pend : AtEveryMoment m es (λ so_far now rest. (u : ℕ) → Pends m so_far now u)
  -- the CSW of a program that ended is held until then: no program starts, and the next interruption gives it;
  pub endings_are_held : AtEveryMoment m es (λ so_far now rest.
      (device : ℕ) (csw : Csw) → now.subchannel ≡ Pending device csw
      → HeldAnswers now.channel device csw (exchanges rest now))
  -- an arm that moves does so until it arrives, and owes its device end until that is stored or reset;
  pub arms_owe : AtEveryMoment m es (λ so_far now rest. (u : ℕ) (arm later : Arm) → arm_for now u ≡ Some arm
      → arm_owes arm ≡ 1
      → arm_along u (exchanges rest now) arm ≡ Some later → arm_for (after_all rest now) u ≡ Some later)
  -- whenever no program runs, storage and drives are those of the accepted programs run one after another, each cut at its
  -- counted unit;
  pub is_serial : AtEveryMoment m es (λ so_far now rest.
      is_working now.subchannel ≡ false → world_of now ≡ history (world_of m) (all_acts m so_far))
  -- a fault of the store either is not met, or ends the program in that unit or at that cut, and is reported;
  pub faults_end_programs : AtEveryMoment m es (λ so_far now rest. (e : Event) (x : FaultAfter) → FaultDoes now e x)
  -- and without one nothing is reported of any;
  pub no_fault_none_told : AtEveryMoment m es (λ so_far now rest.
      (e : Event) → let r = react e None now in TellsNoTrack r.0 × NoneGainsCheck now r.1)
  -- and the machine stays sound, so that all this holds of what comes next.
  pub stays_sound : AtEveryMoment m es (λ so_far now rest. IsSound now)

-- This holds of every machine that a channel is ever in, and of every list.
abbrev pub HeadlineHolds : Type 0
HeadlineHolds = (m : Machine) (es : List Input) → IsSound m → Headline m es
