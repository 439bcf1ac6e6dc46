-- What events do to arms that owe a device end.
use Rattle.std.proofs.Common.{◌≡◌, ◌≤◌, ℕ, ◌+◌, ◌*◌, ◌/◌, ◌%◌, refl, ap, subst, ◌∙◌, arith, true, false, Bool, cond, ◌&&◌, ◌==◌, List, []}
use Rattle.std.proofs.Common.{◌∷◌, Option, Some, None}
use Rattle.std.proofs.lemmas.Bool.{cond_both, eq-eqb, eqb-true}
use Rattle.std.specs.Prelude.{find, option_map, is_some, filter}
use Rattle.s360_words.specs.Storage.{Storage}
use Rattle.s360_words.specs.declared.flags.TheConstants.UnitStatus.{DEVICE_END}
use Rattle.s360_words.specs.declared.words.Csw.{Csw}
use Rattle.s360_laws.specs.Endings.{Ending}
use Rattle.s360_laws.specs.Starts.{First, BadStart, RejectedStart, ImmediateStart, AcceptedStart}
use Rattle.s360_laws.specs.Status.{tells, no_unit_status}
use Rattle.s360_laws.proofs.EndStatus.{AsksGood}
use Rattle.s360_laws.specs.Arms.{arm_for, arrives, ends_owing, arm_next, ArmFollows, arm_along, ArmStays, ArrivedInterrupts}
use Rattle.s360_laws.specs.Arms.{HaltOfPendingStays}
use Rattle.s360_laws.specs.Events.{Answer, Event, Exchange, FaultAfter, Sio, Interrupt, WithCode, Interrupted}
use Rattle.s360_laws.specs.Machine.{Device, Machine, Subchannel, Idle, Pending, address_of, device_at, at_rest, all_at_rest, arm_after}
use Rattle.s360_laws.specs.Machine.{ended, started, halt_io, has_arrived, lowest, csw_of_unit, interrupt_device, react, fault_in, after_all}
use Rattle.s360_laws.specs.Machine.{exchanges, with_arm}
use Rattle.s360_laws.specs.Soundness.{AreDistinct, arm_owes, device_for, device_owes}
use Rattle.s360_laws.specs.declared.arm.Arm.{Arm}
use Rattle.s360_laws.specs.declared.arm.Arm.TheVariants.{AtRest, Arrived}
use Rattle.s360_laws.specs.declared.condition.ConditionCode.TheVariants.{Three, Zero}
use Rattle.s360_laws.proofs.AlikeLists.{unmoved}
use Rattle.s360_laws.proofs.FindDevices.{HasArm, found_map, at_device, set_arm, set_both, set_drive, idle}
use Rattle.s360_laws.proofs.LedgerLists.{lowest_found, the_arrived, stays, Rest, good_stands, sound_parts}
use Rattle.s360_laws.proofs.Reactions.{Reacts, Same, Arrives, Clears, EndAtStart, EndAtTest, EndInterrupts, Starts, TestTakes}
use Rattle.s360_laws.proofs.Reactions.{InterruptTakes, Halts, Cuts, StepEnds, Asks, IsAt, changed_for, reacts}

-- An event's answer and the machine behind it keep the arm at an address as the exchange says.
abbrev Keeps_arm : ℕ → Arm → Event → Option FaultAfter → Answer × Machine → Type 0
Keeps_arm u arm e x r = arm_for r.1 u ≡ Some (arm_next u (e, x, r.0) arm)

-- a status without device end, where it is for this address
unended : (b c : Bool) (arm : Arm) → (b ≡ true → c ≡ false) → Some arm ≡ Some (cond (b && c) AtRest (cond false Arrived arm))
unended b c arm k = grind arith

is_there : (y : Option Device) (arm : Arm) → HasArm arm y → is_some y ≡ true
is_there y arm h = grind arith

reset_arm : (w : Machine) (u : ℕ) → is_some (device_for w u) ≡ true → arm_for (all_at_rest w) u ≡ Some AtRest
reset_arm w u there = let same = found_map (λ d. 256 * w.channel + d == u) at_rest (λ v. refl) w.devices in grind arith

-- where the arm at an address owes a device end
module _ (m : Machine) (u : ℕ) (arm : Arm) (h : arm_for m u ≡ Some arm) (o : arm_owes arm ≡ 1) where
  -- a device that owes nothing is not there
  free_away : (P : Type 0) (d : ℕ) (v : Device) → device_at m d ≡ Some v → device_owes (device_at m d) ≡ 0 → HasArm arm (Some v) → P
  free_away P d v at z k = grind arith

  -- its device end is told
  told_arm : (a d : ℕ) (v : Device) → IsAt m a d v → arm_for (with_arm AtRest d m) u
      ≡ Some (cond ((a == u) && true) AtRest (cond false Arrived arm))
  told_arm a d v at = changed_for m (set_arm AtRest) (λ v. refl) a d v at u (λ b y z. HasArm arm z
      → option_map (λ v. v.arm) y ≡ Some (cond (b && true) AtRest (cond false Arrived arm))) (λ k. refl) (λ y k. k) h

  -- another device is at the end of its program
  over_arm : (d : ℕ) (st : Storage) (e : Ending) (v : Device) → device_at m d ≡ Some v → device_owes (device_at m d) ≡ 0
      → arm_for (ended d st e m) u ≡ Some arm
  over_arm d st e v at z = changed_for m (set_both (arm_after e) e.drive) (λ v. refl) (address_of m d) d v (record {
    address =
        refl;
    is_there = at;
  }) u (λ b y z. HasArm arm z → HasArm arm y) (free_away _ d v at z) (λ y k. k) h

  begin_arm : (x : Option FaultAfter) (a d : ℕ) (v : Device) (f : First) → IsAt m a d v → v.arm ≡ AtRest
      → Keeps_arm u arm (Sio a) x (started d (idle m) f)
  begin_arm x a d v BadStart at free = grind arith
  begin_arm x a d v (RejectedStart w) at free = changed_for m (set_drive w) (λ v. refl) a d v at u (λ b y z. HasArm arm z → HasArm arm y)
      (λ k. k) (λ y k. k) h ∙ unended (a == u) false arm (λ k. refl)
  begin_arm x a d v (ImmediateStart e) at free =
      changed_for m (set_both (arm_after e) e.drive) (λ v. refl) a d v at u (λ b y z. HasArm arm z
      → option_map (λ v. v.arm) y ≡ Some (cond (b && tells e.csw.unit DEVICE_END) AtRest (cond false Arrived arm)))
      (free_away _ d v at.is_there (ap device_owes at.is_there ∙ ap arm_owes free)) (λ y k. k) h
  begin_arm x a d v AcceptedStart at free = h

  -- the CSW that pends has no device end for an arm that owes it
  told_csw_arm : (p a : ℕ) (csw : Csw) → address_of m p ≡ a → Rest m (Pending p csw)
      → Some arm ≡ Some (cond ((a == u) && tells csw.unit DEVICE_END) AtRest (cond false Arrived arm))
  told_csw_arm p a csw e r = unended (a == u) (tells csw.unit DEVICE_END) arm (λ k. let same = at_device m p u (device_at m p) (e
      ∙ eqb-true a u k) refl in grind arith)

  arm_by : (x : Option FaultAfter) {c : Subchannel} {e : Event} {r : Answer × Machine} → Reacts m x c e r → AreDistinct m.devices → Rest m c
      → Keeps_arm u arm e x r
  arm_by x (Same c e a q k) ds z = let n = (unmoved (e, x, a) q).0 u in rw (n.0, n.2 DEVICE_END, n.3) h
  arm_by x (Arrives c a d v at k) ds z = changed_for m (set_arm Arrived) (λ v. refl) a d v at u (λ b y z. HasArm arm z
      → option_map (λ v. v.arm) y ≡ Some (cond b Arrived arm)) (λ k. refl) (λ y k. k) h
  arm_by x (Clears c k) ds z = reset_arm m u (is_there (device_for m u) arm h)
  arm_by x (EndAtStart a d v at k) ds z = told_arm a d v at
  arm_by x (EndAtTest a d v at k) ds z = told_arm a d v at
  arm_by x (EndInterrupts d k) ds z = let l = the_arrived (device_at m d) (lowest_found m.devices ds d k) in
      told_arm (address_of m d) d l.0 (record { address = refl; is_there = l.1 })
  arm_by x (Starts a v at k f q) ds z = begin_arm x a (a % 256) v f at k
  arm_by x (TestTakes p csw a e) ds z = h ∙ told_csw_arm p a csw e z
  arm_by x (InterruptTakes p csw) ds z = h ∙ told_csw_arm p (address_of m p) csw refl z
  arm_by x (Halts d s a w) ds z = over_arm d w.seen.storage (w.seen.cut (fault_in x)) w.drive w.is_there z
  arm_by x (Cuts d s w) ds z =
      let e = w.seen.cut (fault_in x) in
      reset_arm (ended d w.seen.storage e m) u (changed_for m (set_both (arm_after e) e.drive) (λ v. refl) (address_of m d) d w.drive
      (record { address = refl; is_there = w.is_there }) u
      (λ b y z. is_some z ≡ true → is_some y ≡ true) (λ k. refl) (λ y k. k) (is_there (device_for m u) arm h))
  arm_by x (StepEnds d s k w used st e q) ds z = over_arm d st e w.drive w.is_there z
  arm_by x (Asks d s w csw q) ds z = let silent : csw.unit ≡ no_unit_status = subst AsksGood q (good_stands m d s w).1 in grind arith
  arm_by x y ds z = grind arith

-- Any event, and lists.

pub arm_follows : ArmFollows
arm_follows m e u arm sound h o = let p = sound_parts m m.subchannel sound.1 in
    arm_by m u arm h o e.1 (reacts m e.1 m.subchannel e.0 p.0) sound.0 p.1

still_owes : (b c : Bool) (arm : Arm) → b ≡ false → arm_owes arm ≡ 1 → arm_owes (cond b AtRest (cond c Arrived arm)) ≡ 1
still_owes b c arm k o = grind arith

pub arm_stays : ArmStays
arm_stays m [] u arm arm_now sound h o k = h ∙ k
arm_stays m (e ∷ es) u arm arm_now sound h o k =
    let next = (react e.0 e.1 m).1 in
    let t : Exchange = (e.0, e.1, (react e.0 e.1 m).0) in
    cond_both (ends_owing u t) None (arm_along u (exchanges es next) (arm_next u t arm)) (λ y. y ≡ Some arm_now
    → arm_for (after_all es next) u ≡ Some arm_now) (λ b q. absurd (cc))
    (λ b. arm_stays next es u (arm_next u t arm) arm_now (stays m e.0 e.1 sound) (arm_follows m e u arm sound h o)
    (still_owes (ends_owing u t) (arrives u t) arm b o)) k

-- The lowest of the devices whose arms have arrived.

abbrev Least : Option ℕ → ℕ → Type 0
Least None d = ⊥
Least (Some c) d = c ≤ d

-- of one device more, where the devices that have arrived and the one that is found are known of the others
least_more : (v : Device) (d : ℕ) (arrived : List Device) (y : Option Device) → (HasArm Arrived y → Least (lowest arrived) d)
    → HasArm Arrived (cond (v.device == d) (Some v) y) → Least (lowest (cond (has_arrived v) (v ∷ arrived) arrived)) d
least_more v d arrived y k h = grind arith

least : (vs : List Device) (d : ℕ) → HasArm Arrived (find (λ v. v.device == d) vs) → Least (lowest (filter has_arrived vs)) d
least [] d h = absurd (cc)
least (v ∷ vs) d h = least_more v d (filter has_arrived vs) (find (λ v. v.device == d) vs) (least vs d) h

pub arrived_interrupts : ArrivedInterrupts
arrived_interrupts m x device sound is_idle low = go m.subchannel is_idle (lowest (filter has_arrived m.devices)) refl
    (least m.devices device low.arrived)
  where
    go : (s : Subchannel) → s ≡ Idle → (l : Option ℕ) → lowest (filter has_arrived m.devices) ≡ l → Least l device
        → (react Interrupt x (record m { subchannel = s })).0 ≡ Interrupted (Some (address_of m device, csw_of_unit DEVICE_END))
    go Idle e None k n = absurd n
    go Idle e (Some c) k n =
        let low_enough = low.lowest c (lowest_found m.devices sound.0 c k) in
        let same : c ≡ device = omega arith in
        ap (λ l. (interrupt_device (idle m) l).0) k
        ∙ ap (λ d. Interrupted (Some (address_of m d, csw_of_unit DEVICE_END))) same
    go c e l k n = absurd (cc)

pub halt_of_pending_stays : HaltOfPendingStays
halt_of_pending_stays m a p csw x e h = go m.subchannel h (a / 256 == m.channel) (eq-eqb _ _ e)
  where
    go : (c : Subchannel) → c ≡ Pending p csw → (b : Bool) → b ≡ true → cond b (halt_io (fault_in x) (a % 256) m c) (WithCode Three, m)
        ≡ (WithCode Zero, m)
    go (Pending q c) h true k = refl
    go c h b k = absurd (cc)
