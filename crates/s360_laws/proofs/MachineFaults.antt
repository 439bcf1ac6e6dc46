-- What a fault of the store does in a step, at Halt I/O and at a reset.
use Rattle.std.proofs.Common.{◌≡◌, ℕ, zero, suc, ◌+◌, ◌-◌, ◌/◌, refl, sym, ap, subst, ◌∙◌, arith, true, false, Bool, cond, ◌==◌, List, ◌∷◌}
use Rattle.std.proofs.Common.{◌++◌, Some, None, ◌⊎◌, inl, inr, append_assoc}
use Rattle.std.specs.Prelude.{option_map, map}
use Rattle.s360_words.specs.Storage.{Storage}
use Rattle.ckd_command.specs.Drive.{Fault, IdleDrive, SaveFails, LoadFails}
use Rattle.s360_laws.specs.Endings.{Outcome, Ended, Ending, NotEnded}
use Rattle.s360_laws.specs.Faults.{cut_drive, OutcomeByFault, EndsByFault}
use Rattle.s360_laws.specs.Runs.{Start, run}
use Rattle.s360_laws.specs.Scripts.{Script, OneUnit, units, units_in}
use Rattle.s360_laws.proofs.FaultsMet.{fault_ends_cut, run_by_fault}
use Rattle.s360_laws.proofs.Standing.{stands_somewhere}
use Rattle.s360_laws.proofs.Walks.{units_in_two, ended_stays}
use Rattle.s360_laws.specs.Events.{Answer, FaultAfter, Stepped, StepBy, WithCode, Hio, WasReset, Reset, Event}
use Rattle.s360_laws.specs.History.{Runs}
use Rattle.s360_laws.specs.Machine.{cut, ended, units_failing, Machine, arm_after, stepped, start_of, react, Subchannel, Working, run_of}
use Rattle.s360_laws.specs.Machine.{unsaved_at, address_of, all_at_rest, at_rest, with_subchannel}
use Rattle.s360_laws.specs.Steps.{EndedByFault, FaultEndsStep, FaultEndsHalt, ToldByReset, FaultToldByReset, OthersMeetNone, FaultDoes}
use Rattle.s360_laws.specs.declared.condition.ConditionCode.TheVariants.{Two, Three}
use Rattle.s360_laws.proofs.FindDevices.{changed_device, found_map, set_both, run_at, working, by_device}
use Rattle.s360_laws.proofs.Reactions.{Stands, stands_in, run_is}
use Rattle.s360_laws.proofs.StepUnits.{units_count}

-- The units of a step in which a fault stands.

-- a fault stands behind so many plain units, or it is not among them
abbrev Split : (k after : ℕ) → Fault → Type 0
Split k after f = (units_failing k after f ≡ units k)
    ⊎ ((rest : ℕ) × (units_failing k after f ≡ units after ++ OneUnit (Some f) ∷ units rest)
    × (units k ≡ units after ++ OneUnit None ∷ units rest))

split : (k after : ℕ) (f : Fault) → Split k after f
split zero after f = inl refl
split (suc k) zero f = inr (k, refl, refl)
split (suc k) (suc after) f = elim (split k after f)
    [ inl e ↦ inl (ap (λ l. OneUnit None ∷ l) e) | inr e ↦ inr (e.0, ap (λ l. OneUnit None ∷ l) e.1, ap (λ l. OneUnit None ∷ l) e.2) ]

-- the run with the fault is the run without it; or it ended in the unit with the fault
abbrev MetAt : Fault → ℕ → Outcome → Type 0
MetAt f n o = (before : IdleDrive) × OutcomeByFault f n before o

abbrev MetOr : Start → Script → Script → Fault → ℕ → Type 0
MetOr s with_fault without f n = (run with_fault s ≡ run without s) ⊎ MetAt f n (run with_fault s)

failing_or : (s : Start) (script : Script) (k after : ℕ) (f : Fault) → MetOr s (script ++ units_failing k after f) (script ++ units k) f
    (units_in script + suc after)
failing_or s script k after f = go (split k after f)
  where
    first : Script
    first = script ++ units after

    count : suc (units_in first) ≡ units_in script + suc after
    count = omega (arith, units_in_two, units_count after None)

    -- the program is over before the fault, or stands before it
    by_first : (rest : ℕ) (o : Outcome) → run first s ≡ o → MetOr s (first ++ OneUnit (Some f) ∷ units rest) (first ++ OneUnit None
        ∷ units rest) f (suc (units_in first))
    by_first rest (Ended used st e) h = inl (ended_stays s first (OneUnit (Some f) ∷ units rest) used st e h
        ∙ sym (ended_stays s first (OneUnit None ∷ units rest) used st e h))
    by_first rest (NotEnded seen) h = let y = stands_somewhere s first seen h in
        elim (run_by_fault s first (units rest) f y.0 y.1 y.2) [ inl same ↦ inl same | inr o ↦ inr (cut_drive y.0 y.1, o) ]

    go : Split k after f → MetOr s (script ++ units_failing k after f) (script ++ units k) f (units_in script + suc after)
    go (inl e) = inl (ap (λ l. run (script ++ l) s) e)
    go (inr (rest, with_fault, without)) = rw (with_fault, without, ← count) (simp append_assoc at (by_first rest (run first s) refl))

-- What a fault does to a program that runs.

abbrev FaultOr : (A : Answer × Machine → Type 0) → (with_fault without : Answer × Machine) → Type 0
FaultOr A with_fault without = (with_fault ≡ without) ⊎ A with_fault

module _ (m : Machine) (d : ℕ) (s : Script) (w : Stands m d s) where
  over_by_fault : (st : Storage) (e : Ending) (answer : Answer) (fault : Fault) (before : IdleDrive) → EndsByFault fault before e
      → EndedByFault (answer, ended d st e m) answer
  over_by_fault st e answer fault before h = record {
    answers = refl;
    device = d;
    csw = e.csw;
    pends = refl;
    unit_check = h.unit_check;
    drive = set_both (arm_after e) e.drive w.drive;
    is_there = changed_device d (set_both (arm_after e) e.drive) (λ w. refl) m.devices w.drive w.is_there;
    equipment_check = h.equipment_check;
  }

  step_met : (k : ℕ) (x : FaultAfter) (o : Outcome) → MetAt x.fault (units_in s + suc x.units) o
      → EndedByFault (stepped d s k (working m d s) (Some o)) (Stepped (suc x.units))
  step_met k x (NotEnded seen) h = absurd h.1
  step_met k x (Ended used st e) h = let count : used - units_in s ≡ suc x.units = omega arith in
      rw count (over_by_fault st e (Stepped (suc x.units)) x.fault h.0 h.1.1)

  step_faults : (k : ℕ) (x : FaultAfter) → FaultOr (λ r. EndedByFault r (Stepped (suc x.units))) (react (StepBy k) (Some x) (working m d s))
      (react (StepBy k) None (working m d s))
  step_faults k x = elim (failing_or (start_of m w.drive.drive) s k x.units x.fault) [
    | inl same ↦ inl (ap (stepped d s k (working m d s)) (run_at m d w.drive (s ++ units_failing k x.units x.fault) w.is_there
        ∙ ap Some same ∙ sym (run_at m d w.drive (s ++ units k) w.is_there)))
    | inr met ↦ inr (by_device m d (s ++ units_failing k x.units x.fault) w.drive (λ o. EndedByFault (stepped d s k (working m d s) o)
        (Stepped (suc x.units))) w.is_there
        (step_met k x (run (s ++ units_failing k x.units x.fault) (start_of m w.drive.drive)) met))
  ]

  -- a cut loads nothing, and where its save fails, the program ends so
  cut_faults : (f : Fault) (of_end : Ending → Answer × Machine) (A : Answer × Machine → Type 0)
      → ((left : List ℕ) → f ≡ SaveFails left → EndsByFault f (w.seen.cut None).drive (w.seen.cut (Some f))
      → A (of_end (w.seen.cut (Some f))))
      → FaultOr A (of_end (w.seen.cut (Some f))) (of_end (w.seen.cut None))
  cut_faults LoadFails of_end A met = inl (ap of_end (fault_ends_cut (start_of m w.drive.drive) s w.seen w.stands).0)
  cut_faults (SaveFails left) of_end A met = elim ((fault_ends_cut (start_of m w.drive.drive) s w.seen w.stands).1 left) [
    | inl same ↦ inl
        (ap of_end same)
    | inr h ↦ inr (met left refl h)
  ]

  halt_faults : (x : FaultAfter) (b : Bool) → FaultOr (λ r. EndedByFault r (WithCode Two))
      (cond b (WithCode Two, cut (Some x.fault) d (working m d s) (run_of m d s)) (WithCode Three, working m d s))
      (cond b (WithCode Two, cut None d (working m d s) (run_of m d s)) (WithCode Three, working m d s))
  halt_faults x true = rw (run_is m d s w)
      (cut_faults x.fault (λ e. (WithCode Two, ended d w.seen.storage e m)) (λ r. EndedByFault r (WithCode Two))
      (λ left is h. over_by_fault w.seen.storage (w.seen.cut (Some x.fault)) (WithCode Two) x.fault (w.seen.cut None).drive h))
  halt_faults x false = inl refl

  told_by_reset : (f : Fault) (left : List ℕ) → f ≡ SaveFails left → EndsByFault f (w.seen.cut None).drive (w.seen.cut (Some f))
      → ToldByReset (working m d s) (
        WasReset (unsaved_at (address_of m d) (Some f) (Some (NotEnded w.seen))),
        all_at_rest (ended d w.seen.storage (w.seen.cut (Some f)) m),
      )
  told_by_reset f left is h =
      let e = w.seen.cut (Some f) in
      let there = changed_device d (set_both (arm_after e) e.drive) (λ w. refl) m.devices w.drive w.is_there in
      let unsaved = (subst (λ f. EndsByFault f (w.seen.cut None).drive e) is h).slots.0 in
      record {
        device = d;
        script = s;
        worked = refl;
        drive = at_rest (set_both (arm_after e) e.drive w.drive);
        is_there = found_map (λ n. n == d) at_rest (λ w. refl) (map (λ w. cond (w.device == d) (set_both (arm_after e) e.drive w) w)
            m.devices) ∙ ap (option_map at_rest) there;
        told = ap (λ t. WasReset (option_map (λ t. (address_of m d, t.0, t.1)) t)) unsaved;
      }

  reset_faults : (x : FaultAfter) → FaultOr (ToldByReset (working m d s)) (react Reset (Some x) (working m d s))
      (react Reset None (working m d s))
  reset_faults x = rw (run_is m d s w)
      (cut_faults x.fault (λ e. (
        WasReset (option_map (λ t. (address_of m d, t.0, t.1)) e.unsaved),
        all_at_rest (ended d w.seen.storage e m),
      )) (ToldByReset (working m d s))
      (λ left is h. told_by_reset x.fault left is h))

-- Each event.

pub fault_does : (m : Machine) (e : Event) (x : FaultAfter) → Runs m m.subchannel → FaultDoes m e x
fault_does m e x r = go m.subchannel e r
  where
    go : (c : Subchannel) (e : Event) → Runs m c → FaultDoes (with_subchannel c m) e x
    go (Working d s) (StepBy k) r = step_faults m d s (stands_in m d s r) k x
    go (Working d s) (Hio a) r = halt_faults m d s (stands_in m d s r) x (a / 256 == m.channel)
    go (Working d s) Reset r = reset_faults m d s (stands_in m d s r) x
    go c (StepBy k) r = inl refl
    go c (Hio a) r = inl refl
    go c Reset r = inl refl
    go c e r = refl

pub fault_ends_step : FaultEndsStep
fault_ends_step m k x = fault_does m (StepBy k) x

pub fault_ends_halt : FaultEndsHalt
fault_ends_halt m a x = fault_does m (Hio a) x

pub fault_told_by_reset : FaultToldByReset
fault_told_by_reset m x = fault_does m Reset x

pub others_meet_none : OthersMeetNone
others_meet_none m e x h = grind arith
