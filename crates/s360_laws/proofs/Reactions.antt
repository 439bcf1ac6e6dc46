-- What an event may do to a machine, case by case: each law of one event is a function of these cases. A program that runs is
-- `Stands`: its device, that it is there, and where its run stands; a device that a command names is `IsAt` its address.
use Rattle.std.proofs.Common.{Bool, cond, ◌≡◌, ℕ, ◌-◌, ◌/◌, ◌%◌, refl, sym, ap, subst, ◌∙◌, true, false, ◌==◌, [], ◌∷◌, ◌++◌, Option, Some}
use Rattle.std.proofs.Common.{None}
use Rattle.std.proofs.lemmas.Bool.{cond_both, eqb-true, cond-true, cond-false, ne_eqb, eqb-false}
use Rattle.std.specs.Prelude.{option_map, is_some, filter}
use Rattle.s360_words.specs.Storage.{Storage, Change, Bytes, KeyOf, is_within}
use Rattle.s360_words.specs.declared.flags.TheConstants.UnitStatus.{BUSY, DEVICE_END}
use Rattle.s360_words.specs.declared.words.Csw.{Csw}
use Rattle.s360_laws.specs.Endings.{Outcome, Ended, NotEnded, Ending, Standing}
use Rattle.s360_laws.specs.Runs.{run}
use Rattle.s360_laws.specs.Scripts.{Script, units, units_in, Outside}
use Rattle.s360_laws.specs.Starts.{First, first}
use Rattle.s360_laws.specs.Status.{no_channel_status, no_unit_status, busy_device_end}
use Rattle.s360_laws.specs.Events.{Answer, Event, FaultAfter, Sio, Tio, Hio, Tch, StepBy, Arrive, Interrupt, Reset, Store, SetKey, Show}
use Rattle.s360_laws.specs.Events.{WithCode, StatusStored, Stepped, HasArrived, Interrupted, WasReset, WasKept, Shown}
use Rattle.s360_laws.specs.History.{Runs}
use Rattle.s360_laws.specs.Machine.{with_device, Device, Machine, Subchannel, Idle, Working, Pending, address_of, all_at_rest, arrive}
use Rattle.s360_laws.specs.Machine.{asked_by, change, csw_of_unit, cut, device_at, ended, fault_in, goes_on, has_arrived, interrupt_device}
use Rattle.s360_laws.specs.Machine.{interrupt_program, interrupted, is_in_motion, is_working, keep, lowest, on_channel, part_of, react}
use Rattle.s360_laws.specs.Machine.{refused, run_of, start_device, start_of, started, stepped, storage_of, test_channel, test_device}
use Rattle.s360_laws.specs.Machine.{tested, units_with, unsaved_at, with_arm, with_change, with_status, with_subchannel}
use Rattle.s360_laws.specs.NothingTold.{TellsNoTrack}
use Rattle.s360_laws.specs.SerialLists.{changes_nothing}
use Rattle.s360_laws.specs.Soundness.{device_for, IsRunning}
use Rattle.s360_laws.specs.declared.arm.Arm.TheVariants.{AtRest, InMotion, Arrived}
use Rattle.s360_laws.specs.declared.condition.ConditionCode.TheVariants.{Zero, Two, Three}
use Rattle.s360_laws.proofs.FindDevices.{Keeps, at_device, idle, run_at, whole, working, working_device, found_map, keeps_one, found_is}

-- a program that runs: its device, and where its run stands
pub record Stands (m : Machine) (d : ℕ) (s : Script) : Type 0 where
  pub drive : Device
  pub is_there : device_at m d ≡ Some drive
  pub seen : Standing
  pub stands : run s (start_of m drive.drive) ≡ NotEnded seen

pub stands_in : (m : Machine) (d : ℕ) (s : Script) → IsRunning (run_of m d s) → Stands m d s
stands_in m d s r =
    let v = working_device m d s (device_at m d) refl r in
    (elim (run s (start_of m v.0.drive)) as (λ o. run s (start_of m v.0.drive) ≡ o → IsRunning (Some o) → Stands m d s)
    [ Ended used st e ↦ λ h r. absurd r | NotEnded seen ↦ λ h r. record { drive = v.0; is_there = v.1; seen = seen; stands = h } ]) refl v.2

pub run_is : (m : Machine) (d : ℕ) (s : Script) (w : Stands m d s) → run_of m d s ≡ Some (NotEnded w.seen)
run_is m d s w = run_at m d w.drive s w.is_there ∙ ap Some w.stands

-- a device whose address a command names
pub record IsAt (m : Machine) (a d : ℕ) (v : Device) : Type 0 where
  pub address : address_of m d ≡ a
  pub is_there : device_at m d ≡ Some v

-- what holds of the device at an address before and after a change of one device, by whether it is that one; its
-- premises are many, since each use has a statement of its own, and shows it where it is that one and where it is not
pub changed_for : (m : Machine) (f : Device → Device) → Keeps f → (a d : ℕ) (v : Device) → IsAt m a d v → (u : ℕ) (P : Bool → Option Device
    → Option Device → Type 0)
    → P true (Some (f v)) (Some v) → ((y : Option Device) → P false y y) → P (a == u) (device_for (with_device d f m) u) (device_for m u)
changed_for m f k a d v at u P here there = subst (λ a. P (a == u) (device_for (with_device d f m) u) (device_for m u)) at.address
    (subst (λ y. P (address_of m d == u) y (device_for m u)) (sym (found_map (λ d. address_of m d == u) one (keeps_one d f k) m.devices))
    (go (address_of m d == u) refl (device_for m u) refl))
  where
    one : Device → Device
    one w = cond (w.device == d) (f w) w

    go : (b : Bool) → (address_of m d == u) ≡ b → (y : Option Device) → device_for m u ≡ y → P b (option_map one y) y
    go true q y e = subst (λ y. P true (option_map one y) y) (sym (at_device m d u (Some v) (eqb-true _ _ q) at.is_there) ∙ e)
        (subst (λ w. P true (Some w) (Some v))
        (sym (cond-true (v.device == d) (f v) v (found_is (λ w. w.device == d) m.devices v at.is_there))) here)
    go false q None e = there None
    go false q (Some w) e = subst (λ x. P false (Some x) (Some w)) (sym (cond-false (w.device == d) (f w) w (ne_eqb _ _ apart)))
        (there (Some w))
      where
        apart : w.device ≡ d → ⊥
        apart k = eqb-false _ _ q (ap (address_of m) (sym k) ∙ eqb-true _ _ (found_is (λ w. address_of m w.device == u) m.devices w e))

-- the event by which the processor makes a change
abbrev pub event_of : Change → Event
event_of (Bytes at bytes) = Store at bytes
event_of (KeyOf at key) = SetKey at key

-- What an event answers and leaves, by the subchannel that it finds.
pub data Reacts (m : Machine) (x : Option FaultAfter) : Subchannel → Event → Answer × Machine → Type 0 where
  -- in each state: nothing changes, an arm arrives
  Same : (c : Subchannel) (e : Event) (a : Answer) → changes_nothing (e, x, a) ≡ true → TellsNoTrack a
      → Reacts m x c e (a, with_subchannel c m)
  Arrives : (c : Subchannel) (a d : ℕ) (v : Device) → IsAt m a d v → is_in_motion v.arm ≡ true
      → Reacts m x c (Arrive a) (HasArrived true, with_arm Arrived d (with_subchannel c m))
  -- where no program runs: a change of storage, a reset
  Changed : (c : Subchannel) (made : Change) → is_working c ≡ false
      → Reacts m x c (event_of made) (WasKept true, with_change made (with_subchannel c m))
  Clears : (c : Subchannel) → is_working c ≡ false → Reacts m x c Reset (WasReset None, all_at_rest m)
  -- idle: a busy arm, an arm that has arrived, a first unit
  BusyStart : (a : ℕ) → Reacts m x Idle (Sio a) (refused BUSY (idle m))
  BusyTest : (a : ℕ) → Reacts m x Idle (Tio a) (tested (csw_of_unit BUSY) (idle m))
  FreeHalt : (a : ℕ) → Reacts m x Idle (Hio a) (
    StatusStored no_unit_status no_channel_status,
    with_status no_unit_status no_channel_status
        (idle m),
  )
  EndAtStart : (a d : ℕ) (v : Device) → IsAt m a d v → v.arm ≡ Arrived
      → Reacts m x Idle (Sio a) (refused busy_device_end (with_arm AtRest d (idle m)))
  EndAtTest : (a d : ℕ) (v : Device) → IsAt m a d v → v.arm ≡ Arrived
      → Reacts m x Idle (Tio a) (tested (csw_of_unit DEVICE_END) (with_arm AtRest d (idle m)))
  EndInterrupts : (d : ℕ) → lowest (filter has_arrived m.devices) ≡ Some d
      → Reacts m x Idle Interrupt (interrupted d (csw_of_unit DEVICE_END) (with_arm AtRest d (idle m)))
  Starts : (a : ℕ) (v : Device) → IsAt m a (a % 256) v → v.arm ≡ AtRest → (f : First) → first (start_of m v.drive) ≡ f
      → Reacts m x Idle (Sio a) (started (a % 256) (idle m) f)
  -- a CSW pends, and is taken
  TestTakes : (p : ℕ) (csw : Csw) (a : ℕ) → address_of m p ≡ a → Reacts m x (Pending p csw) (Tio a) (tested csw (idle m))
  InterruptTakes : (p : ℕ) (csw : Csw) → Reacts m x (Pending p csw) Interrupt (interrupted p csw (idle m))
  -- a program runs: it ends or goes on
  Halts : (d : ℕ) (s : Script) (a : ℕ) (w : Stands m d s) → Reacts m x (Working d s) (Hio a) (
    WithCode Two,
    ended d w.seen.storage (w.seen.cut (fault_in x)) m,
  )
  Cuts : (d : ℕ) (s : Script) (w : Stands m d s)
      → Reacts m x (Working d s) Reset (
        WasReset (unsaved_at (address_of m d) (fault_in x) (Some (NotEnded w.seen))),
        all_at_rest (ended d w.seen.storage (w.seen.cut (fault_in x)) m),
      )
  StepEnds : (d : ℕ) (s : Script) (k : ℕ) (w : Stands m d s) (used : ℕ) (st : Storage) (e : Ending)
      → run (s ++ units_with k x) (start_of m w.drive.drive) ≡ Ended used st e
      → Reacts m x (Working d s) (StepBy k) (Stepped (used - units_in s), ended d st e m)
  StepGoes : (d : ℕ) (s : Script) (k : ℕ) (w : Stands m d s) (seen : Standing) → run (s ++ units_with k x) (start_of m w.drive.drive)
      ≡ NotEnded seen → Reacts m x (Working d s) (StepBy k) (Stepped k, goes_on d s (units k) m)
  Asks : (d : ℕ) (s : Script) (w : Stands m d s) (csw : Csw) → w.seen.interruption ≡ Some csw
      → Reacts m x (Working d s) Interrupt (interrupt_program d s m (Some csw))
  Within : (d : ℕ) (s : Script) (w : Stands m d s) (made : Change) → Reacts m x (Working d s) (event_of made) (
    WasKept true,
    goes_on d s (Outside made ∷ []) m,
  )

module _ (m : Machine) (x : Option FaultAfter) where
  -- an address of another channel is that of no device
  on : (c : Subchannel) (e : Event) (a : ℕ) (y : Answer × Machine) → changes_nothing (e, x, WithCode Three) ≡ true
      → (address_of m (a % 256) ≡ a → Reacts m x c e y)
      → Reacts m x c e (on_channel a (with_subchannel c m) y)
  on c e a y n h = cond_both (a / 256 == m.channel) y _ (Reacts m x c e) (λ k. h (whole m.channel a k))
      (λ k. Same c e (WithCode Three) n tt)

  at_start : (a : ℕ) (y : Option Device) → address_of m (a % 256) ≡ a → device_at m (a % 256) ≡ y
      → Reacts m x Idle (Sio a) (start_device (a % 256) (idle m) y)
  at_start a None e at = Same Idle (Sio a) (WithCode Three) refl tt
  at_start a (Some v) e at =
      (elim v.arm as (λ arm. v.arm ≡ arm → Reacts m x Idle (Sio a) (start_device (a % 256) (idle m) (Some (record v { arm = arm })))) [
        | InMotion ↦ λ k. BusyStart a
        | Arrived ↦ λ k. EndAtStart a (a % 256) v (record { address = e; is_there = at }) k
        | AtRest ↦ λ k. Starts a v (record { address = e; is_there = at }) k (first (start_of m v.drive)) refl
      ]) refl

  at_test : (a d : ℕ) (y : Option Device) → address_of m d ≡ a → device_at m d ≡ y → Reacts m x Idle (Tio a) (test_device d (idle m) y)
  at_test a d None e at = Same Idle (Tio a) (WithCode Three) refl tt
  at_test a d (Some v) e at =
      (elim v.arm as (λ arm. v.arm ≡ arm → Reacts m x Idle (Tio a) (test_device d (idle m) (Some (record v { arm = arm })))) [
        | InMotion ↦ λ k. BusyTest a
        | Arrived ↦ λ k. EndAtTest a d v (record { address = e; is_there = at }) k
        | AtRest ↦ λ k. Same Idle (Tio a) (WithCode Zero) refl tt
      ]) refl

  at_interrupt : (l : Option ℕ) → lowest (filter has_arrived m.devices) ≡ l → Reacts m x Idle Interrupt (interrupt_device (idle m) l)
  at_interrupt None k = Same Idle Interrupt (Interrupted None) refl tt
  at_interrupt (Some d) k = EndInterrupts d k

  at_arrival : (c : Subchannel) (a d : ℕ) (y : Option Device) → address_of m d ≡ a → device_at m d ≡ y
      → Reacts m x c (Arrive a) (arrive d (with_subchannel c m) y)
  at_arrival c a d None e at = Same c (Arrive a) (HasArrived false) refl tt
  at_arrival c a d (Some v) e at = cond_both (is_in_motion v.arm) _ _ (Reacts m x c (Arrive a))
      (Arrives c a d v (record { address = e; is_there = at })) (λ k. Same c (Arrive a) (HasArrived false) refl tt)

  at_change : (c : Subchannel) (made : Change) → Runs m c → changes_nothing (event_of made, x, WasKept false) ≡ true
      → Reacts m x c (event_of made) (keep made (with_subchannel c m))
  at_change c made r n = cond_both (is_within made m.storage) _ _ (Reacts m x c (event_of made)) (λ k. go c r)
      (λ k. Same c (event_of made) (WasKept false) n tt)
    where
      go : (c : Subchannel) → Runs m c → Reacts m x c (event_of made) (WasKept true, change made (with_subchannel c m) c)
      go Idle r = Changed Idle made refl
      go (Working d s) r = Within d s (stands_in m d s r) made
      go (Pending p csw) r = Changed (Pending p csw) made refl

  at_step : (d : ℕ) (s : Script) (k : ℕ) (w : Stands m d s) (o : Outcome) → run (s ++ units_with k x) (start_of m w.drive.drive) ≡ o
      → Reacts m x (Working d s) (StepBy k) (stepped d s k (working m d s) (Some o))
  at_step d s k w (Ended used st e) h = StepEnds d s k w used st e h
  at_step d s k w (NotEnded seen) h = StepGoes d s k w seen h

  at_request : (d : ℕ) (s : Script) (w : Stands m d s) (c : Option Csw) → w.seen.interruption ≡ c
      → Reacts m x (Working d s) Interrupt (interrupt_program d s (working m d s) c)
  at_request d s w None h = Same (Working d s) Interrupt (Interrupted None) refl tt
  at_request d s w (Some csw) h = Asks d s w csw h

  -- what an event does with the outcome of a run, where the run is known
  by_run : (d : ℕ) (s : Script) (e : Event) (w : Stands m d s) (f : Option Outcome → Answer × Machine)
      → Reacts m x (Working d s) e (f (Some (NotEnded w.seen))) → Reacts m x (Working d s) e (f (run_of m d s))
  by_run d s e w f h = subst (λ o. Reacts m x (Working d s) e (f o)) (sym (run_is m d s w)) h

  pub reacts : (c : Subchannel) (e : Event) → Runs m c → Reacts m x c e (react e x (with_subchannel c m))
  reacts c Tch r = Same c Tch (WithCode (test_channel c)) refl tt
  reacts c (Show at len) r = Same c (Show at len) (Shown (part_of (storage_of (with_subchannel c m) c) at len)) refl tt
  reacts c (Store at bytes) r = at_change c (Bytes at bytes) r refl
  reacts c (SetKey at key) r = at_change c (KeyOf at key) r refl
  reacts c (Arrive a) r = cond_both (a / 256 == m.channel) _ _ (Reacts m x c (Arrive a))
      (λ k. at_arrival c a (a % 256) (device_at m (a % 256)) (whole m.channel a k) refl) (λ k. Same c (Arrive a) (HasArrived false) refl tt)
  reacts Idle (Sio a) r = on Idle (Sio a) a _ refl (λ k. at_start a (device_at m (a % 256)) k refl)
  reacts Idle (Tio a) r = on Idle (Tio a) a _ refl (λ k. at_test a (a % 256) (device_at m (a % 256)) k refl)
  reacts Idle (Hio a) r = on Idle (Hio a) a _ refl (λ k. cond_both (is_some (device_at m (a % 256))) _ _ (Reacts m x Idle (Hio a))
      (λ k. FreeHalt a) (λ k. Same Idle (Hio a) (WithCode Three) refl tt))
  reacts Idle Interrupt r = at_interrupt (lowest (filter has_arrived m.devices)) refl
  reacts (Pending p csw) (Tio a) r = on (Pending p csw) (Tio a) a _ refl (λ k. cond_both (a % 256 ==
      p) _ _ (Reacts m x (Pending p csw) (Tio a))
      (λ q. TestTakes p csw a (ap (address_of m) (sym (eqb-true _ _ q)) ∙ k)) (λ q. Same (Pending p csw) (Tio a) (WithCode Two) refl tt))
  reacts (Pending p csw) (Hio a) r = on (Pending p csw) (Hio a) a _ refl (λ k. Same (Pending p csw) (Hio a) (WithCode Zero) refl tt)
  reacts (Pending p csw) Interrupt r = InterruptTakes p csw
  reacts (Working d s) (Tio a) r = on (Working d s) (Tio a) a _ refl (λ k. Same (Working d s) (Tio a) (WithCode Two) refl tt)
  reacts (Working d s) (Hio a) r = let w = stands_in m d s r in
      on (Working d s) (Hio a) a _ refl (λ k. by_run d s (Hio a) w (λ o. (WithCode Two, cut (fault_in x) d (working m d s) o))
      (Halts d s a w))
  reacts (Working d s) (StepBy k) r = let w = stands_in m d s r in
      subst (λ o. Reacts m x (Working d s) (StepBy k) (stepped d s k (working m d s) o))
      (sym (run_at m d w.drive (s ++ units_with k x) w.is_there))
      (at_step d s k w (run (s ++ units_with k x) (start_of m w.drive.drive)) refl)
  reacts (Working d s) Interrupt r = let w = stands_in m d s r in
      by_run d s Interrupt w (λ o. interrupt_program d s (working m d s) (asked_by o)) (at_request d s w w.seen.interruption refl)
  reacts (Working d s) Reset r = let w = stands_in m d s r in
      by_run d s Reset w (λ o. (WasReset (unsaved_at (address_of m d) (fault_in x) o), all_at_rest (cut (fault_in x) d (working m d s) o)))
      (Cuts d s w)
  reacts c (Sio a) r = on c (Sio a) a _ refl (λ k. Same c (Sio a) (WithCode Two) refl tt)
  reacts c (StepBy k) r = Same c (StepBy k) (Stepped 0) refl tt
  reacts c Reset r = Clears c refl
