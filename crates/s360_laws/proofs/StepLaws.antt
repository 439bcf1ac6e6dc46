-- How the units of a program are cut into steps does not matter.
use Rattle.std.proofs.Common.{true, ◌≡◌, ℕ, zero, suc, ◌+◌, ◌-◌, ◌≤◌, refl, sym, ap, subst, ◌∙◌, arith, [], ◌∷◌, ◌++◌, Option, Some, None}
use Rattle.std.proofs.Common.{zero-add, add-zero, suc-add, append_assoc, append-nil}
use Rattle.std.proofs.lemmas.List.Sums.{sum_by-cons}
use Rattle.std.specs.Prelude.{sum}
use Rattle.ckd_command.specs.Drive.{Fault}
use Rattle.s360_laws.specs.Endings.{Outcome, Ended, NotEnded, Standing}
use Rattle.s360_laws.specs.Runs.{run, Start}
use Rattle.s360_laws.specs.Scripts.{units, OneUnit, Script, units_in}
use Rattle.s360_laws.proofs.Standing.{stands_somewhere}
use Rattle.s360_laws.proofs.Walks.{ended_stays, units_in_two}
use Rattle.s360_laws.specs.Events.{FaultAfter, Answer, StepBy, Stepped}
use Rattle.s360_laws.specs.History.{Runs}
use Rattle.s360_laws.specs.Machine.{units_failing, units_with, Machine, react, run_of, start_of, stepped, Subchannel, Working, is_working}
use Rattle.s360_laws.specs.Machine.{with_subchannel}
use Rattle.s360_laws.specs.Steps.{after_units, units_of, StepsJoin, StepsSplit, StepsAtMost}
use Rattle.s360_laws.proofs.FindDevices.{working, by_device}
use Rattle.s360_laws.proofs.Reactions.{Stands, stands_in, run_is}
use Rattle.s360_laws.proofs.Serial.{good}
use Rattle.s360_laws.proofs.StepUnits.{ended_in, units_count}
pub use Rattle.s360_laws.proofs.FindDevices.{run_at, working_device}
pub use Rattle.s360_laws.proofs.StepUnits.{plain_two}

failing_two : (j k b : ℕ) (f : Fault) → units j ++ units_failing k b f ≡ units_failing (j + k) (j + b) f
failing_two zero k b f = ap (λ n. units_failing n b f) (sym (zero-add k)) ∙ ap (λ n. units_failing (0 + k) n f) (sym (zero-add b))
failing_two (suc j) k b f = ap (λ l. OneUnit None ∷ l) (failing_two j k b f) ∙ ap (λ n. units_failing n (suc (j + b)) f) (sym (suc-add j k))
    ∙ ap (λ n. units_failing (suc j + k) n f) (sym (suc-add j b))

units_two : (j k : ℕ) (x : Option FaultAfter) → units j ++ units_with k x ≡ units_with (j + k) (after_units j x)
units_two j k None = plain_two j k
units_two j k (Some x) = failing_two j k x.units x.fault

abbrev Joined : Machine → ℕ → ℕ → Option FaultAfter → Answer × Machine → Type 0
Joined m j k x a =
    ((react (StepBy k) x a.1).1 ≡ (react (StepBy (j + k)) (after_units j x) m).1)
    × ((react (StepBy (j + k)) (after_units j x) m).0 ≡ Stepped (units_of a.0 + units_of (react (StepBy k) x a.1).0))

module _ (m : Machine) (d : ℕ) (s : Script) (w : Stands m d s) (j k : ℕ) (x : Option FaultAfter) where
  abbrev start : Start
  start = start_of m w.drive.drive

  -- the whole step, by the run of its parts
  whole : react (StepBy (j + k)) (after_units j x) (working m d s) ≡ stepped d s (j + k) (working m d s)
      (Some (run ((s ++ units j) ++ units_with k x) start))
  whole = ap (stepped d s (j + k) (working m d s)) (run_at m d w.drive (s ++ units_with (j + k) (after_units j x)) w.is_there
      ∙ ap (λ l. Some (run l start)) (sym (append_assoc s (units j) (units_with k x) ∙ ap (λ l. s ++ l) (units_two j k x))))

  second : (seen : Standing) → run (s ++ units j) start ≡ NotEnded seen → (o : Outcome) → run ((s ++ units j) ++ units_with k x) start ≡ o
      → let b = stepped d (s ++ units j) k (working m d (s ++ units j)) (Some o) in
      let c = stepped d s (j + k) (working m d s) (Some o) in
      (b.1 ≡ c.1) × (c.0 ≡ Stepped (j + units_of b.0))
  second seen r (NotEnded st) h = (ap (λ l. working m d l) (append_assoc s (units j) (units k) ∙ ap (λ l. s ++ l) (plain_two j k)), refl)
  second seen r (Ended u st e) h =
      let y = stands_somewhere start (s ++ units j) seen r in
      let z = ended_in start (s ++ units j) (units_with k x) y.0 y.1 u st e y.2 h in
      let count : u - units_in s ≡ j + (u - units_in (s ++ units j)) = omega (arith, units_in_two, units_count j None) in
      (refl, ap Stepped count)

  first : (o : Outcome) → run (s ++ units j) start ≡ o → Joined (working m d s) j k x (stepped d s j (working m d s) (Some o))
  first (Ended u st e) h =
      let q = whole ∙ ap (λ o. stepped d s (j + k) (working m d s) (Some o)) (ended_stays start (s ++ units j) (units_with k x) u st e h) in
      (sym (ap (λ r. r.1) q), ap (λ r. r.0) q ∙ ap Stepped (sym (add-zero _)))
  first (NotEnded seen) h =
      let y = second seen h (run ((s ++ units j) ++ units_with k x) start) refl in
      let b = ap (stepped d (s ++ units j) k (working m d (s ++ units j)))
      (run_at m d w.drive ((s ++ units j) ++ units_with k x) w.is_there) in
      (ap (λ r. r.1) b ∙ y.0 ∙ sym (ap (λ r. r.1) whole), ap (λ r. r.0) whole ∙ y.1 ∙ ap (λ r. Stepped (j + units_of r.0)) (sym b))

pub joins : StepsJoin
joins m j k x r = go m.subchannel r
  where
    go : (c : Subchannel) → Runs m c → Joined (with_subchannel c m) j k x (react (StepBy j) None (with_subchannel c m))
    go (Working d s) r =
        let w = stands_in m d s r in
        by_device m d (s ++ units j) w.drive (λ o. Joined (working m d s) j k x (stepped d s j (working m d s) o)) w.is_there
        (first m d s w j k x (run (s ++ units j) (start_of m w.drive.drive)) refl)
    go c r = (refl, refl)

-- Lists of steps.

no_step : (m : Machine) (c : Subchannel) → Runs m c → (with_subchannel c m ≡ (react (StepBy 0) None (with_subchannel c m)).1)
    × ((react (StepBy 0) None (with_subchannel c m)).0 ≡ Stepped 0)
no_step m (Working d s) r = subst (λ o. (working m d s ≡ (stepped d s 0 (working m d s) o).1)
    × ((stepped d s 0 (working m d s) o).0 ≡ Stepped 0))
    (sym (ap (run_of m d) (append-nil s) ∙ run_is m d s (stands_in m d s r))) (ap (working m d) (sym (append-nil s)), refl)
no_step m c r = (refl, refl)

pub splits : StepsSplit
splits m [] r = no_step m m.subchannel r
splits m (j ∷ ks) r =
    let n = (good m (StepBy j) None r).runs in
    let h = splits (react (StepBy j) None m).1 ks n in
    let t = joins m j (sum ks) None r in
    let c : j + sum ks ≡ sum (j ∷ ks) = sym (sum_by-cons (λ x. x) j ks) in (
      h.0 ∙ t.0 ∙ ap (λ k. (react (StepBy k) None m).1) c,
      ap (λ k. (react (StepBy k) None m).0) (sym c) ∙ t.1
          ∙ ap (λ k. Stepped (units_of (react (StepBy j) None m).0 + units_of k)) h.1,
    )

-- How many units a step does.

abbrev AtMost : ℕ → Answer × Machine → Type 0
AtMost k r = (units_of r.0 ≤ k) × (is_working r.1.subchannel ≡ true → r.0 ≡ Stepped k)

pub steps_at_most : StepsAtMost
steps_at_most m k x r = go m.subchannel r
  where
    most : (d : ℕ) (s : Script) (w : Stands m d s) (o : Outcome) → run (s ++ units_with k x) (start_of m w.drive.drive) ≡ o
        → AtMost k (stepped d s k (working m d s) (Some o))
    most d s w (NotEnded seen) h = (omega arith, λ w. refl)
    most d s w (Ended used st e) h =
        let y = stands_somewhere (start_of m w.drive.drive) s w.seen w.stands in
        let z = ended_in (start_of m w.drive.drive) s (units_with k x) y.0 y.1 used st e y.2 h in
        let split = ap units_in z.parts in
        let few : used - units_in s ≤ k = omega (arith, units_in_two, units_count k x) in
        (few, λ w. absurd (cc))

    go : (c : Subchannel) → Runs m c → AtMost k (react (StepBy k) x (with_subchannel c m))
    go (Working d s) r =
        let w = stands_in m d s r in
        by_device m d (s ++ units_with k x) w.drive (λ o. AtMost k (stepped d s k (working m d s) o)) w.is_there
        (most d s w (run (s ++ units_with k x) (start_of m w.drive.drive)) refl)
    go c r = (omega arith, λ w. absurd (cc))
