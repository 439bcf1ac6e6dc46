-- The ledger: each event keeps what is stored and what is owed in balance, and so does a list of events.
use Rattle.std.proofs.Common.{not, ◌≡◌, ℕ, ◌+◌, refl, sym, ap, ◌∙◌, arith, true, false, Bool, cond, ◌&&◌, ◌==◌, Option, Some, None}
use Rattle.std.proofs.Common.{zero-add, ◌*◌, ◌/◌, ◌%◌, subst, List, [], ◌∷◌, ◌⊎◌, add-zero, ◌++◌, ◌≤◌, ◌||◌}
use Rattle.std.proofs.Math.Bool.{and-true}
use Rattle.std.proofs.lemmas.Bool.{eqb-true, eq-eqb}
use Rattle.std.specs.Prelude.{find, filter, fold}
use Rattle.s360_words.specs.Storage.{Storage}
use Rattle.s360_words.specs.declared.flags.ChannelStatus.{ChannelStatus}
use Rattle.s360_words.specs.declared.flags.TheConstants.UnitStatus.{CHANNEL_END, DEVICE_END}
use Rattle.s360_words.specs.declared.flags.UnitStatus.{UnitStatus}
use Rattle.s360_words.specs.declared.words.Csw.{Csw}
use Rattle.ckd_command.specs.Drive.{unsaved}
use Rattle.s360_laws.specs.Endings.{NotEnded, Ending}
use Rattle.s360_laws.specs.Laws.{IsFirstUnit}
use Rattle.s360_laws.specs.Runs.{Start, run}
use Rattle.s360_laws.specs.Scripts.{units, Script}
use Rattle.s360_laws.specs.Starts.{first, First, ImmediateStart, BadStart, RejectedStart, AcceptedStart}
use Rattle.s360_laws.specs.Status.{tells, normal_end, no_unit_status}
use Rattle.s360_laws.proofs.EndStatus.{IsGood, RunGood, good_run, AsksGood, StandingGood}
use Rattle.s360_laws.proofs.FirstUnits.{first_is_unit}
use Rattle.s360_laws.specs.Events.{Exchange, Event, FaultAfter, Answer, Reset, WasReset, Sio, StatusStored, WithCode, Input, Tio, Tch}
use Rattle.s360_laws.specs.Events.{Interrupt}
use Rattle.s360_laws.specs.History.{Runs}
use Rattle.s360_laws.specs.Ledger.{is_reset, is_accepted, stores_end, Since, SinceBeginning, SinceAcceptance, SinceReset, later, counted}
use Rattle.s360_laws.specs.Ledger.{due, EndsPend, AtMostOnce, ExactlyOnce, ChannelEndFirst, NoneAfterReset, NoStartWhileWorking}
use Rattle.s360_laws.specs.Ledger.{StartsAfterChannelEnd, HeldAnswer, ends_holding, HeldAnswers, HeldUntilStored}
use Rattle.s360_laws.specs.Machine.{Machine, Subchannel, Idle, Working, address_of, Pending, device_at, Device, with_arm, is_in_motion}
use Rattle.s360_laws.specs.Machine.{at_rest, all_at_rest, with_device, arm_after, start_of, started, lowest, has_arrived, react, ended}
use Rattle.s360_laws.specs.Machine.{fault_in, units_with, exchanges, after_all, is_working, with_subchannel, unsaved_at, with_change}
use Rattle.s360_laws.specs.Soundness.{channel_owes, device_owes, device_for, owes_channel_end, owes_device_end, AreDistinct, arm_owes}
use Rattle.s360_laws.specs.Soundness.{IsSound, IsSoundIn, StaysSound, IdleIsSound}
use Rattle.s360_laws.specs.declared.arm.Arm.TheVariants.{AtRest, Arrived, InMotion}
use Rattle.s360_laws.specs.declared.condition.ConditionCode.TheVariants.{Two, Three}
use Rattle.s360_laws.proofs.AlikeLists.{unmoved}
use Rattle.s360_laws.proofs.FindDevices.{HasArm, set_arm, distinct_map, keeps_one, at_device, device_of, found_map, set_both, set_drive}
use Rattle.s360_laws.proofs.FindDevices.{idle, working, Keeps, changed_device, different, pending}
use Rattle.s360_laws.proofs.Reactions.{Reacts, Same, Arrives, Changed, Clears, EndAtStart, EndAtTest, EndInterrupts, Starts, TestTakes}
use Rattle.s360_laws.proofs.Reactions.{InterruptTakes, Halts, Cuts, StepEnds, Asks, Stands, IsAt, changed_for, reacts}
use Rattle.s360_laws.proofs.Serial.{good}

-- What each event owes.

abbrev pub Rest : Machine → Subchannel → Type 0
Rest m Idle = Unit {0}
Rest m (Working d s) = device_owes (device_at m d) ≡ 0
Rest m (Pending d csw) = (tells csw.unit CHANNEL_END ≡ true) × (cond (tells csw.unit DEVICE_END) 1 0 + device_owes (device_at m d) ≡ 1)

abbrev owed_by : ℕ → Exchange → ℕ → ℕ
owed_by u t n = cond (is_reset t) 0 (cond (is_accepted u t) 1 n)

abbrev Balance : ℕ → Exchange → Machine → Machine → Type 0
Balance u t m m_two =
    (cond (stores_end CHANNEL_END u t) 1 0 + owes_channel_end u m_two ≡ owed_by u t (owes_channel_end u m))
    × (cond (stores_end DEVICE_END u t) 1 0 + owes_device_end u m_two ≡ owed_by u t (owes_device_end u m))
    × (is_accepted u t ≡ true → (owes_channel_end u m ≡ 0) × (owes_device_end u m ≡ 0))

abbrev Fine : Machine → Event → Option FaultAfter → Answer × Machine → Type 0
Fine m e x r = AreDistinct r.1.devices × Rest r.1 r.1.subchannel × ((u : ℕ) → Balance u (e, x, r.0) m r.1)

-- a program that ended: its device end, or the motion of its arm
end_owes : (c motion : Bool) → c ≡ not motion → cond c 1 0 + arm_owes (cond motion InMotion AtRest) ≡ 1
end_owes c motion h = grind arith

-- a change of one device keeps addresses apart
distinct : (m : Machine) (d : ℕ) (f : Device → Device) → Keeps f → AreDistinct m.devices → AreDistinct (with_device d f m).devices
distinct m d f k h = distinct_map _ (keeps_one d f k) m.devices h

-- the device end of an arm that has arrived is told
device_end_told : (m : Machine) (a d u : ℕ) (v : Device) → IsAt m a d v → v.arm ≡ Arrived
    → cond ((a == u) && true) 1 0 + (0 + device_owes (device_for (with_arm AtRest d m) u)) ≡ 0 + device_owes (device_for m u)
device_end_told m a d u v at k =
    changed_for m (set_arm AtRest) (λ v. refl) a d v at u (λ b y z. cond (b && true) 1 0 + (0 + device_owes y) ≡ 0 + device_owes z)
    (ap (λ n. 0 + n) (sym (ap arm_owes k))) (λ y. zero-add _)

-- an arrival
arrival_owes : (m : Machine) (a d u : ℕ) (v : Device) → IsAt m a d v → is_in_motion v.arm ≡ true
    → device_owes (device_for (with_arm Arrived d m) u) ≡ device_owes (device_for m u)
arrival_owes m a d u v at h = changed_for m (set_arm Arrived) (λ v. refl) a d v at u (λ b y z. device_owes y ≡ device_owes z) (grind arith)
    (λ y. refl)

arrival_rest : (m : Machine) (c : Subchannel) (a d : ℕ) (v : Device) → IsAt m a d v → is_in_motion v.arm ≡ true → Rest m c
    → Rest (with_arm Arrived d m) c
arrival_rest m c a d v at h r = grind (arith, same)
  where
    same : (p : ℕ) → device_owes (device_at (with_arm Arrived d m) p) ≡ device_owes (device_at m p)
    same p = ap device_owes (device_of (with_arm Arrived d m) p) ∙ arrival_owes m a d (address_of m p) v at h
        ∙ sym (ap device_owes (device_of m p))

reset_fine : (m w : Machine) (x : Option FaultAfter) (unsaved : _) → AreDistinct w.devices
    → Fine m Reset x (WasReset unsaved, all_at_rest w)
reset_fine m w x unsaved ds = (
  distinct_map at_rest (λ v. refl) w.devices ds,
  tt,
  λ u. let free = found_map (λ d. 256 * w.channel + d == u) at_rest (λ v. refl) w.devices in grind arith,
)

-- Starts.

-- a device whose arm is at rest owes nothing
free_due : (m : Machine) (a d u : ℕ) (v : Device) → IsAt m a d v → v.arm ≡ AtRest → (a == u) ≡ true → ◌≡◌ {A = ℕ} 0 0
    × (0 + device_owes (device_for m u) ≡ 0)
free_due m a d u v at free =
    changed_for m (λ v. v) (λ v. refl) a d v at u (λ b y z. b ≡ true → ◌≡◌ {A = ℕ} 0 0 × (0 + device_owes z ≡ 0)) (λ q. (
      refl,
      zero-add _
          ∙ ap arm_owes free,
    )) (λ y q. absurd (cc))

abbrev FirstGood : Start → First → Type 0
FirstGood s (ImmediateStart e) = IsGood e × ((e.csw.unit ≡ CHANNEL_END) ⊎ (e.csw.unit ≡ normal_end))
FirstGood s f = Unit {0}

first_good : (s : Start) (f : First) → first s ≡ f → FirstGood s f
first_good s f h = go f (subst (λ f. IsFirstUnit s f (run (units 1) s)) h (first_is_unit s).unit_is)
  where
    go : (f : First) → IsFirstUnit s f (run (units 1) s) → FirstGood s f
    go (ImmediateStart e) r = (subst RunGood r.0 (good_run s (units 1)), r.1)
    go f r = tt

-- an immediate command is accepted and over at once
at_once : (a u : ℕ) (x : Option FaultAfter) (unit : UnitStatus) (channel : ChannelStatus) → (unit ≡ CHANNEL_END) ⊎ (unit ≡ normal_end)
    → (is_accepted u (Sio a, x, StatusStored unit channel) ≡ (a == u)) × (tells unit CHANNEL_END ≡ true)
at_once a u x unit channel h = grind arith

-- a start, by what its first unit comes to; that is named, since it goes by its cases, and what is known of the device
-- at the address is a premise each
begin_fine : (m : Machine) (x : Option FaultAfter) (a d : ℕ) (v : Device) (f : First) → IsAt m a d v → v.arm ≡ AtRest
    → FirstGood (start_of m v.drive) f → AreDistinct m.devices → Fine (idle m) (Sio a) x (started d (idle m) f)
begin_fine m x a d v BadStart at free g ds = (ds, tt, λ u. grind arith)
begin_fine m x a d v (RejectedStart w) at free g ds = (
  distinct m d (set_drive w) (λ v. refl) ds,
  tt,
  λ u. let same = changed_for m (set_drive w) (λ v. refl) a d v at u (λ b y z. device_owes y ≡ device_owes z) refl (λ y. refl) in
      grind arith,
)
begin_fine m x a d v AcceptedStart at free g ds = (
  ds,
  ap device_owes at.is_there ∙ ap arm_owes free,
  λ u. (
    zero-add _ ∙ ap (λ k. cond (k == u) 1 0) at.address,
    zero-add _ ∙ ap (λ k. cond (k == u) 1 0 + device_owes (device_for m u)) at.address
        ∙ changed_for m (λ v. v) (λ v. refl) a d v at u (λ b y z. cond b 1 0 + device_owes z ≡ cond b 1 (0 + device_owes z))
        (ap (λ n. 1 + n) (ap arm_owes free)) (λ y. refl),
    free_due m a d u v at free,
  ),
)
begin_fine m x a d v (ImmediateStart z) at free g ds = (
  distinct m d (set_both (arm_after z) z.drive) (λ v. refl) ds,
  tt,
  λ u. let k = at_once a u x z.csw.unit z.csw.channel g.1 in (
    ap (λ c. cond ((a == u) && c) 1 0 + 0) k.1 ∙ add-zero _ ∙ ap (λ b. cond b 1 0) (and-true (a == u) ∙ sym k.0),
    changed_for m (set_both (arm_after z) z.drive) (λ v. refl) a d v at u (λ b y z_two. cond (b && tells z.csw.unit DEVICE_END) 1 0
        + (0 + device_owes y) ≡ cond b 1 (0 + device_owes z_two))
        (ap (λ n. cond (tells z.csw.unit DEVICE_END) 1 0 + n) (zero-add _) ∙ end_owes (tells z.csw.unit DEVICE_END) z.motion g.0.device_end)
        (λ y. zero-add _)
        ∙ ap (λ b. cond b 1 (0 + device_owes (device_for m u))) (sym k.0),
    λ h. free_due m a d u v at free (sym k.0 ∙ h),
  ),
)

-- A program that runs.

-- it is over: its CSW pends
record IsOver (m : Machine) (d : ℕ) (s : Script) (st : Storage) (e : Ending) : Type 0 where
  apart : AreDistinct (ended d st e m).devices
  rest : Rest (ended d st e m) (Pending d e.csw)
  channel_end : (u : ℕ) → 0 + owes_channel_end u (ended d st e m) ≡ owes_channel_end u (working m d s)
  device_end : (u : ℕ) → 0 + owes_device_end u (ended d st e m) ≡ owes_device_end u (working m d s)

over : (m : Machine) (d : ℕ) (s : Script) (st : Storage) (e : Ending) (w : Stands m d s) → IsGood e → AreDistinct m.devices
    → device_owes (device_at m d) ≡ 0 → IsOver m d s st e
over m d s st e w g ds z = record {
  apart = distinct m d (set_both (arm_after e) e.drive) (λ v. refl) ds;
  rest = (
    g.channel_end,
    ap (λ y. cond (tells e.csw.unit DEVICE_END) 1 0 + device_owes y) (changed_device d (set_both (arm_after e) e.drive)
        (λ v. refl) m.devices w.drive w.is_there) ∙ end_owes (tells e.csw.unit DEVICE_END) e.motion g.device_end,
  );
  channel_end = λ u. zero-add _ ∙ ap (λ c. cond ((address_of m d == u) && c) 1 0) g.channel_end
      ∙ ap (λ b. cond b 1 0) (and-true (address_of m d == u));
  device_end = λ u. changed_for m (set_both (arm_after e) e.drive) (λ v. refl) (address_of m d) d w.drive (record {
    address =
        refl;
    is_there = w.is_there;
  }) u
      (λ b y y_two. 0 + (cond (b && tells e.csw.unit DEVICE_END) 1 0 + device_owes y) ≡ cond b 1 0 + device_owes y_two)
      (zero-add _ ∙ end_owes (tells e.csw.unit DEVICE_END) e.motion g.device_end
      ∙ sym (ap (λ n. 1 + n) (sym (ap device_owes w.is_there) ∙ z))) (λ y. zero-add _);
}

pub good_stands : (m : Machine) (d : ℕ) (s : Script) (w : Stands m d s) → StandingGood w.seen
good_stands m d s w = subst RunGood w.stands (good_run (start_of m w.drive.drive) s)

-- The lowest device end.

-- of one device more, whose address no other has, where it is known of the others
lowest_more : (v : Device) (d : ℕ) (arrived : List Device) (at : ℕ → Option Device) → at v.device ≡ None
    → (lowest arrived ≡ Some d → HasArm Arrived (at d))
    → lowest (cond (has_arrived v) (v ∷ arrived) arrived) ≡ Some d → HasArm Arrived (cond (v.device == d) (Some v) (at d))
lowest_more v d arrived at apart k h = grind arith

pub lowest_found : (vs : List Device) → AreDistinct vs → (d : ℕ) → lowest (filter has_arrived vs) ≡ Some d
    → HasArm Arrived (find (λ w. w.device == d) vs)
lowest_found [] ds d h = absurd (cc)
lowest_found (v ∷ vs) ds d h = lowest_more v d (filter has_arrived vs) (λ n. find (λ w. w.device == n) vs) ds.0 (lowest_found vs ds.1 d) h

pub the_arrived : (y : Option Device) → HasArm Arrived y → (v : Device) × (y ≡ Some v) × (v.arm ≡ Arrived)
the_arrived None h = absurd (cc)
the_arrived (Some v) h = (v, refl, cc)

-- Any event.

fine_by : (m : Machine) (x : Option FaultAfter) {c : Subchannel} {e : Event} {r : Answer × Machine} → Reacts m x c e r
    → AreDistinct m.devices → Rest m c → Fine (with_subchannel c m) e x r
fine_by m x (Same c e a h k) ds z = (
  ds,
  z,
  λ u. let n = (unmoved (e, x, a) h).0 u in rw (n.0, n.1, n.2 CHANNEL_END, n.2 DEVICE_END)
      (zero-add _, zero-add _, λ b. absurd (cc)),
)
fine_by m x (Arrives c a d v at k) ds z = (
  distinct m d (set_arm Arrived) (λ v. refl) ds,
  arrival_rest m c a d v at k z,
  λ u. (zero-add _, zero-add _ ∙ ap (λ n. channel_owes DEVICE_END u m c + n) (arrival_owes m a d u v at k), λ b. absurd (cc)),
)
fine_by m x (Clears c k) ds z = reset_fine (with_subchannel c m) m x None ds
fine_by m x (EndAtStart a d v at k) ds z = (
  distinct m d (set_arm AtRest) (λ v. refl) ds,
  tt,
  λ u. let told =
      device_end_told m a d u v at k in grind arith,
)
fine_by m x (EndAtTest a d v at k) ds z = (
  distinct m d (set_arm AtRest) (λ v. refl) ds,
  tt,
  λ u. let told =
      device_end_told m a d u v at k in grind arith,
)
fine_by m x (EndInterrupts d k) ds z =
    let l = the_arrived (device_at m d) (lowest_found m.devices ds d k) in (
      distinct m d (set_arm AtRest) (λ v. refl) ds,
      tt,
      λ u. let told = device_end_told m (address_of m d) d u l.0 (record {
        address =
            refl;
        is_there = l.1;
      }) l.2 in grind arith,
    )
fine_by m x (Starts a v at k f h) ds z = begin_fine m x a (a % 256) v f at k (first_good (start_of m v.drive) f h) ds
fine_by m x (TestTakes p csw a e) ds z = (ds, tt, λ u. grind arith)
fine_by m x (InterruptTakes p csw) ds z = (ds, tt, λ u. grind arith)
fine_by m x (Halts d s a w) ds z =
    let o = over m d s w.seen.storage (w.seen.cut (fault_in x)) w ((good_stands m d s w).0 (fault_in x)) ds z in
    (o.apart, o.rest, λ u. (o.channel_end u, o.device_end u, λ b. absurd (cc)))
fine_by m x (Cuts d s w) ds z =
    let e = w.seen.cut (fault_in x) in
    reset_fine (working m d s) (ended d w.seen.storage e m) x (unsaved_at (address_of m d) (fault_in x) (Some (NotEnded w.seen)))
    (distinct m d (set_both (arm_after e) e.drive) (λ v. refl) ds)
fine_by m x (StepEnds d s k w used st e h) ds z =
    let o = over m d s st e w (subst RunGood h (good_run (start_of m w.drive.drive) (s ++ units_with k x))) ds z in
    (o.apart, o.rest, λ u. (o.channel_end u, o.device_end u, λ b. absurd (cc)))
fine_by m x (Asks d s w csw h) ds z =
    let g : csw.unit ≡ no_unit_status = subst AsksGood h (good_stands m d s w).1 in (ds, z, λ u. grind arith)
fine_by m x y ds z = (ds, z, λ u. grind arith)

pub sound_parts : (m : Machine) (c : Subchannel) → IsSoundIn m c → Runs m c × Rest m c
sound_parts m c h = grind arith

sound_whole : (m : Machine) (c : Subchannel) → Runs m c → Rest m c → IsSoundIn m c
sound_whole m c r h = grind arith

fine : (m : Machine) (e : Event) (x : Option FaultAfter) → IsSound m → Fine m e x (react e x m)
fine m e x h = let p = sound_parts m m.subchannel h.1 in fine_by m x (reacts m x m.subchannel e p.0) h.0 p.1

pub stays : (m : Machine) (e : Event) (x : Option FaultAfter) → IsSound m → IsSound (react e x m).1
stays m e x h =
    let p = sound_parts m m.subchannel h.1 in
    let f = fine m e x h in
    (f.0, sound_whole (react e x m).1 (react e x m).1.subchannel (good m e x p.0).runs f.1)

-- Lists.

pub stays_sound : StaysSound
stays_sound m [] h = h
stays_sound m (e ∷ es) h = stays_sound (react e.0 e.1 m).1 es (stays m e.0 e.1 h)

-- what is stored and owed together, by what came last
abbrev Holds : ℕ → Since → ℕ → ℕ → Type 0
Holds b s n o = n + o ≡ due b s

-- one exchange more, of numbers and tests alone, so that tactics read no machine
holds_next : (b : ℕ) (s : Since) (r a : Bool) (n t o o_two : ℕ) → Holds b s n o → t + o_two ≡ cond r 0 (cond a 1 o)
    → Holds b (cond r SinceReset (cond a SinceAcceptance s)) (cond (r || a) 0 n + t) o_two
holds_next b s r a n t o o_two h e = grind arith

-- all exchanges; it names twice what was owed and what was stored since, as channel end and device end go along one
-- list
holds_all : (u b q : ℕ) (es : List Input) (m : Machine) (s : Since) (c d : ℕ) → IsSound m → Holds b s c (owes_channel_end u m)
    → Holds q s d (owes_device_end u m)
    → Holds b (fold (later u) s (exchanges es m)) (fold (counted CHANNEL_END u) c (exchanges es m)) (owes_channel_end u (after_all es m))
    × Holds q (fold (later u) s (exchanges es m)) (fold (counted DEVICE_END u) d (exchanges es m)) (owes_device_end u (after_all es m))
holds_all u b q [] m s c d h hc hd = (hc, hd)
holds_all u b q (e ∷ es) m s c d h hc hd =
    let k = (fine m e.0 e.1 h).2 u in
    let t : Exchange = (e.0, e.1, (react e.0 e.1 m).0) in
    holds_all u b q es (react e.0 e.1 m).1 (later u s t) (counted CHANNEL_END u c t) (counted DEVICE_END u d t) (stays m e.0 e.1 h)
    (holds_next b s (is_reset t) (is_accepted u t) c _ _ _ hc k.0) (holds_next q s (is_reset t) (is_accepted u t) d _ _ _ hd k.1)

pub ends_pend : EndsPend
ends_pend m es u h = holds_all u (owes_channel_end u m) (owes_device_end u m) es m SinceBeginning 0 0 h (zero-add _) (zero-add _)

-- What a sound machine owes.

arm_most : (y : Option Device) → device_owes y ≤ 1
arm_most y = grind arith

-- the owed channel end and device end of a device, where either the device end or the arm is owed
owed_ends : (b c d : Bool) (n : ℕ) → n ≤ 1 → (b ≡ true → cond d 1 0 + n ≡ 1) → (cond (b && c) 1 0 ≤ cond (b && d) 1 0 + n)
    × (cond (b && d) 1 0 + n ≤ 1)
owed_ends b c d n l k = grind arith

owed : (m : Machine) (c : Subchannel) (u : ℕ) → Rest m c
    → (channel_owes CHANNEL_END u m c ≤ channel_owes DEVICE_END u m c + device_owes (device_for m u))
    × (channel_owes DEVICE_END u m c + device_owes (device_for m u) ≤ 1)
owed m c u h = grind (arith, same, arm_most)
  where
    same : (d : ℕ) → (address_of m d == u) ≡ true → device_owes (device_for m u) ≡ device_owes (device_at m d)
    same d b = ap device_owes (at_device m d u (device_at m d) (eqb-true _ _ b) refl)

owed_most : (m : Machine) (u : ℕ) → IsSound m → (owes_channel_end u m ≤ owes_device_end u m) × (owes_device_end u m ≤ 1)
owed_most m u h = owed m m.subchannel u (sound_parts m m.subchannel h.1).1

most : (b : ℕ) (s : Since) (n o : ℕ) → b ≤ 1 → Holds b s n o → n ≤ 1
most b s n o l h = grind arith

pub at_most_once : AtMostOnce
at_most_once m es u h =
    let k = ends_pend m es u h in
    let o = owed_most m u h in
    let few : owes_channel_end u m ≤ 1 = omega arith in
    (most _ _ _ _ few k.0, most _ _ _ _ o.1 k.1)

pub exactly_once : ExactlyOnce
exactly_once m es e u h s a =
    let k = rw s at (ends_pend m es u h) in
    let z = ((fine (after_all es m) e.0 e.1 (stays_sound m es h)).2 u).2 a in
    (omega arith, omega arith)

pub channel_end_first : ChannelEndFirst
channel_end_first m es u h s =
    let k = rw s at (ends_pend m es u h) in
    let owes = owed_most (after_all es m) u (stays_sound m es h) in
    omega arith

pub none_after_reset : NoneAfterReset
none_after_reset m es u h s = let k = rw s at (ends_pend m es u h) in (omega arith, omega arith)

pub idle_sound : IdleIsSound
idle_sound m h ds = (ds, subst (IsSoundIn m) (sym h) tt)

-- When a start is accepted.

pub no_start_while_working : NoStartWhileWorking
no_start_while_working m h a x = go m.subchannel h
  where
    go : (c : Subchannel) → is_working c ≡ true → ◌≡◌ {A = Answer × Machine} (react (Sio a) x (record m { subchannel = c }))
        (WithCode (cond (a / 256 == m.channel) Two Three), record m { subchannel = c })
    go c h = grind arith

accepted_idle : (m : Machine) (e : Event) (x : Option FaultAfter) (v : ℕ) → is_accepted v (e, x, (react e x m).0) ≡ true
    → m.subchannel ≡ Idle
accepted_idle m e x v h = grind arith

pub starts_after_channel_end : StartsAfterChannelEnd
starts_after_channel_end m es e u v sound s h =
    let k = rw s at (ends_pend m es u sound) in
    let idle = accepted_idle (after_all es m) e.0 e.1 v h in
    let none = ap (channel_owes CHANNEL_END u (after_all es m)) idle in
    omega arith

-- What is answered while the channel end of a program that ended is owed.

-- each answer is that of an ending that pends
held_answer : (m : Machine) (p : ℕ) (csw : Csw) (e : Event) (x : Option FaultAfter)
    → HeldAnswer m.channel p csw (e, x, (react e x (pending m p csw)).0)
held_answer m p csw (Sio a) x = λ e. rw (eq-eqb _ _ e) refl
held_answer m p csw (Tio a) x = λ e other. rw (eq-eqb _ _ e, different _ _ other) refl
held_answer m p csw Tch x = refl
held_answer m p csw Interrupt x = refl
held_answer m p csw e x = tt

-- its CSW was taken; its premises are many, since a test and an interruption come here
taken : (m : Machine) (p q a : ℕ) (csw other : Csw) → address_of m q ≡ a → Pending q other ≡ Pending p csw
    → tells csw.unit CHANNEL_END ≡ true → ((a == address_of m p) && tells other.unit CHANNEL_END) ≡ false → ⊥
taken m p q a csw other e is t h = grind arith

-- the machine that follows has it still, unless it was stored or reset
abbrev StillHeld : Machine → ℕ → Csw → Machine → Type 0
StillHeld m p csw after = (n : Machine) × (after ≡ pending n p csw) × (n.channel ≡ m.channel)

-- one event more; it names the state, the event and what is answered, since it goes by the cases of the reaction
held_next : (m : Machine) (p : ℕ) (csw : Csw) (x : Option FaultAfter) {c : Subchannel} {e : Event} {r : Answer × Machine} → Reacts m x c e r
    → c ≡ Pending p csw → tells csw.unit CHANNEL_END ≡ true
    → ends_holding (address_of m p) (e, x, r.0) ≡ false → StillHeld m p csw r.1
held_next m p csw x (Same c e a q k) is t h = (m, ap (λ c. with_subchannel c m) is, refl)
held_next m p csw x (Arrives c a d v at k) is t h = (with_arm Arrived d m, ap (λ c. with_subchannel c (with_arm Arrived d m)) is, refl)
held_next m p csw x (Changed c made k) is t h = (with_change made m, ap (λ c. with_subchannel c (with_change made m)) is, refl)
held_next m p csw x (TestTakes q other a e) is t h = absurd (taken m p q a csw other e is t h)
held_next m p csw x (InterruptTakes q other) is t h = absurd (taken m p q (address_of m q) csw other refl is t h)
held_next m p csw x r is t h = absurd (cc)

held_list : (es : List Input) (m : Machine) (p : ℕ) (csw : Csw) → tells csw.unit CHANNEL_END ≡ true
    → HeldAnswers m.channel p csw (exchanges es (pending m p csw))
held_list [] m p csw c = tt
held_list (e ∷ es) m p csw c = (
  held_answer m p csw e.0 e.1,
  λ h. go (react e.0 e.1 (pending m p csw)).1
      (held_next m p csw e.1 (reacts m e.1 (Pending p csw) e.0 tt) refl c h) (λ n. held_list es n p csw c),
)
  where
    go : (after : Machine) → StillHeld m p csw after → ((n : Machine) → HeldAnswers n.channel p csw (exchanges es (pending n p csw)))
        → HeldAnswers m.channel p csw (exchanges es after)
    go after n held = rw (n.1, ← n.2) (held n.0)

pub held_until_stored : HeldUntilStored
held_until_stored m p csw es sound h =
    subst (λ c. HeldAnswers m.channel p csw (exchanges es (record m { subchannel = c }))) (sym h)
    (held_list es m p csw (subst (λ c. IsSoundIn m c) h sound.1).0)
