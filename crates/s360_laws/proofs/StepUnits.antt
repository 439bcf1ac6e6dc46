-- The units of a step, the programs that end in one, and scripts as they are read off a list of events and answers.
use Rattle.std.proofs.Common.{◌≡◌, ℕ, zero, suc, ◌+◌, ◌-◌, refl, sym, ap, ◌∙◌, arith, zero-add, suc-add, [], ◌∷◌, ◌++◌, length, Option}
use Rattle.std.proofs.Common.{Some, None, List}
use Rattle.s360_words.specs.Storage.{Storage}
use Rattle.ckd_command.specs.Drive.{Fault}
use Rattle.s360_laws.specs.Endings.{Ended, NotEnded, Ending, Standing}
use Rattle.s360_laws.specs.Faults.{without_faults}
use Rattle.s360_laws.specs.Runs.{Start, run}
use Rattle.s360_laws.specs.Scripts.{Script, units, units_in, OneUnit}
use Rattle.s360_laws.specs.Units.{ProgramPhase, StandsAt, walk, Walk, StandsIn, outcome_of, EndsWith}
use Rattle.s360_laws.proofs.FaultsMet.{unmet_walk, same_outcome}
use Rattle.s360_laws.proofs.Standing.{ends_by, goes_by}
use Rattle.s360_laws.proofs.Walks.{exact, units_in_two}
use Rattle.s360_laws.specs.Events.{FaultAfter, Exchange}
use Rattle.s360_laws.specs.History.{units_ahead, script_ahead, where_over, turns_of}
use Rattle.s360_laws.specs.Machine.{units_with}

-- The units of a step.

pub no_units : (k : ℕ) (x : Option FaultAfter) → k ≡ 0 → units_with k x ≡ []
no_units k x h = grind arith

-- a step's units are one, with the fault that stands there, and those of the shorter step behind it
one_more : (x : Option FaultAfter) → (f : Option Fault) × (y : Option FaultAfter)
    × ((k : ℕ) → units_with (suc k) x ≡ OneUnit f ∷ units_with k y)
one_more None = (None, None, λ k. refl)
one_more (Some x) = go x.units x.fault
  where
    go : (n : ℕ) (f : Fault) → (g : Option Fault) × (y : Option FaultAfter)
        × ((k : ℕ) → units_with (suc k) (Some (record { units = n; fault = f })) ≡ OneUnit g ∷ units_with k y)
    go zero f = (Some f, None, λ k. refl)
    go (suc n) f = (None, Some (record { units = n; fault = f }), λ k. refl)

pub units_front : (k : ℕ) (x : Option FaultAfter) (front rest : Script) → units_with k x ≡ front ++ rest
    → units_with (length front) x ≡ front
units_front k x [] rest h = no_units 0 x refl
units_front zero x (t ∷ front) rest h = let none = no_units 0 x refl in absurd (cc)
units_front (suc k) x (t ∷ front) rest h =
    let o = one_more x in
    let all = o.2 k in
    let some = o.2 (length front) in
    let behind : units_with k o.1 ≡ front ++ rest = cc in
    let next = units_front k o.1 front rest behind in
    cc

pub units_count : (k : ℕ) (x : Option FaultAfter) → units_in (units_with k x) ≡ k
units_count zero x = ap units_in (no_units 0 x refl)
units_count (suc k) x = let o = one_more x in let all = ap units_in (o.2 k) in let h = units_count k o.1 in omega arith

pub plain_step : (k : ℕ) (x : Option FaultAfter) → without_faults (units_with k x) ≡ units k
plain_step zero x = ap without_faults (no_units 0 x refl)
plain_step (suc k) x = let o = one_more x in ap without_faults (o.2 k) ∙ ap (λ l. OneUnit None ∷ l) (plain_step k o.1)

pub plain_two : (j k : ℕ) → units j ++ units k ≡ units (j + k)
plain_two zero k = ap units (sym (zero-add k))
plain_two (suc j) k = ap (λ l. OneUnit None ∷ l) (plain_two j k) ∙ ap units (sym (suc-add j k))

-- a program that stood behind a script, and ended behind more of it
pub record EndedIn (script more : Script) (key : ℕ) (g : ProgramPhase) (used : ℕ) (st : Storage) (e : Ending) : Type 0 where
  pub front : Script
  pub rest : Script
  pub parts : more ≡ front ++ rest
  pub walked : walk front key g ≡ EndsWith [] st e
  pub all_used : used ≡ units_in script + units_in front

-- it names both parts of the script, where the program stood between them and how it ended, since it splits its run
-- there
pub ended_in : (s : Start) (script more : Script) (key : ℕ) (g : ProgramPhase) (used : ℕ) (st : Storage) (e : Ending)
    → StandsAt s script key g
    → run (script ++ more) s ≡ Ended used st e → EndedIn script more key g used st e
ended_in s script more key g used st e h r = go (walk more key g) refl
  where
    go : (w : Walk) → walk more key g ≡ w → EndedIn script more key g used st e
    go (StandsIn f) w = let q = sym r ∙ h more ∙ ap (outcome_of (script ++ more) key) w in absurd (cc)
    go (EndsWith rest a b) w =
        let y = exact more key rest a b g w in
        let q = sym (ap (outcome_of (script ++ more) key) w) ∙ sym (h more) ∙ r in
        let same : EndsWith [] a b ≡ EndsWith [] st e = cc in
        let count : units_in (script ++ more) - units_in rest ≡ used = cc in
        let split = ap units_in y.1 in
        record { front = y.0; rest = rest; parts = y.1; walked = y.2 ∙ same; all_used = omega (arith, units_in_two) }

-- A program that ended in a step ended at its last unit that counts. It names what `ended_in` does, by which it goes,
-- and the step for the second part of the script.
pub ended_there : (s : Start) (script : Script) (key : ℕ) (g : ProgramPhase) (k used : ℕ) (x : Option FaultAfter) (st : Storage)
    (e : Ending) → StandsAt s script key g
    → run (script ++ units_with k x) s ≡ Ended used st e → run (script ++ units_with (used - units_in script) x) s ≡ Ended used st e
ended_there s script key g k used x st e h r =
    let y = ended_in s script (units_with k x) key g used st e h r in
    let front = units_front k x y.front y.rest y.parts in
    let count = ap units_in (sym front) ∙ units_count (length y.front) x in
    let steps : used - units_in script ≡ length y.front = omega arith in
    let all : units_in (script ++ y.front) ≡ used = omega (arith, units_in_two) in
    ap (λ j. run (script ++ units_with j x) s) steps ∙ ap (λ l. run (script ++ l) s) front ∙ ends_by s script y.front key g st e h y.walked
    ∙ ap (λ u. Ended u st e) all

-- A step that the program outlives has met no fault.

-- so its run goes on as without the fault; it names the script before the step, the step and the script behind it, and
-- where the program stood before it and after it, since it compares two runs part by part
pub unmet : (s : Start) (script : Script) (key : ℕ) (g : ProgramPhase) (k : ℕ) (x : Option FaultAfter) (seen : Standing)
    → StandsAt s script key g → run (script ++ units_with k x) s ≡ NotEnded seen
    → (more : Script) → run ((script ++ units k) ++ more) s ≡ run ((script ++ units_with k x) ++ more) s
unmet s script key g k x seen st r more = go (walk (units_with k x) key g) refl
  where
    counts : units_in ((script ++ units k) ++ more) ≡ units_in ((script ++ units_with k x) ++ more)
    counts = omega (arith, units_in_two, units_count k x, units_count k None)

    go : (w : Walk) → walk (units_with k x) key g ≡ w → run ((script ++ units k) ++ more) s ≡ run ((script ++ units_with k x) ++ more) s
    go (EndsWith rest st_two e) w = let q = sym (ap (outcome_of (script ++ units_with k x) key) w) ∙ sym (st (units_with k x)) ∙ r in
        absurd (cc)
    go (StandsIn h) w =
        goes_by s script (units k) key g h st (ap (λ l. walk l key g) (sym (plain_step k x)) ∙ unmet_walk (units_with k x) key g h w) more
        ∙ same_outcome ((script ++ units k) ++ more) ((script ++ units_with k x) ++ more) key (walk more key h) counts
        ∙ sym (goes_by s script (units_with k x) key g h st w more)

-- Scripts read off.

pub quiet_script : (ahead : List Exchange) → units_ahead ahead ≡ 0 → script_ahead ahead ≡ []
quiet_script [] h = refl
quiet_script (t ∷ ahead) h = ap (λ n. where_over n [] (turns_of t ++ script_ahead ahead)) h

pub same_script : (ahead : List Exchange) → script_ahead ahead ≡ where_over (units_ahead ahead) [] (script_ahead ahead)
same_script ahead = grind (arith, quiet_script)

pub step_script : (k : ℕ) (x : Option FaultAfter) (ahead : List Exchange) → units_with k x ++ script_ahead ahead
    ≡ where_over (k + units_ahead ahead) [] (units_with k x ++ script_ahead ahead)
step_script k x ahead = grind (arith, no_units, quiet_script)
