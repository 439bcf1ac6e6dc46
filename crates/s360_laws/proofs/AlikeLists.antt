-- The acts of the serial list are the acts of the list.
use Rattle.std.proofs.Common.{◌≡◌, ℕ, zero, suc, ◌+◌, ◌*◌, ◌/◌, ◌%◌, refl, sym, ap, subst, ◌∙◌, arith, true, false, Bool, not, ◌&&◌, ◌||◌}
use Rattle.std.proofs.Common.{◌==◌, List, [], ◌∷◌, ◌++◌, Option, None, append_assoc, append-nil, cond}
use Rattle.std.proofs.lemmas.Bool.{and_parts, cond_both, eqb-true, not-false}
use Rattle.std.specs.Prelude.{replicate, filter}
use Rattle.s360_words.specs.Storage.{Change}
use Rattle.s360_words.specs.declared.flags.UnitStatus.{UnitStatus}
use Rattle.s360_laws.specs.Scripts.{units}
use Rattle.s360_laws.specs.Arms.{arrives}
use Rattle.s360_laws.specs.Events.{Exchange, StepBy, Stepped, FaultAfter}
use Rattle.s360_laws.specs.History.{units_ahead, script_ahead, fate_ahead, acts, own_change, where_over, Changes, acts_of, turns_of}
use Rattle.s360_laws.specs.Ledger.{is_reset, is_accepted, stores_end}
use Rattle.s360_laws.specs.SerialLists.{changes_nothing, is_arrival, arrivals_last, steps_ahead, is_step, is_between, whole_step, steps_of}
use Rattle.s360_laws.specs.SerialLists.{ArePlain, steps_joined, SameActs}
use Rattle.s360_laws.proofs.StepUnits.{no_units, step_script, same_script, plain_two}

pub record Alike (x y : List Exchange) : Type 0 where
  pub ahead : units_ahead x ≡ units_ahead y
  pub script : script_ahead x ≡ script_ahead y
  pub ends : fate_ahead x ≡ fate_ahead y
  pub does : acts x ≡ acts y

same : (x : List Exchange) → Alike x x
same x = record { ahead = refl; script = refl; ends = refl; does = refl }

then : {x y z : List Exchange} → Alike x y → Alike y z → Alike x z
then p q = record { ahead = p.ahead ∙ q.ahead; script = p.script ∙ q.script; ends = p.ends ∙ q.ends; does = p.does ∙ q.does }

back : {x y : List Exchange} → Alike x y → Alike y x
back p = record { ahead = sym p.ahead; script = sym p.script; ends = sym p.ends; does = sym p.does }

-- behind an event.

units_behind : (t : Exchange) (x y : List Exchange) → units_ahead x ≡ units_ahead y → units_ahead (t ∷ x) ≡ units_ahead (t ∷ y)
units_behind t x y h = grind arith

fate_behind : (t : Exchange) (x y : List Exchange) → fate_ahead x ≡ fate_ahead y → fate_ahead (t ∷ x) ≡ fate_ahead (t ∷ y)
fate_behind t x y h = grind arith

owns : (c : Change) (x y : List Exchange) → units_ahead x ≡ units_ahead y → own_change x c ≡ own_change y c
owns c x y h = ap (λ n. where_over n (Changes c ∷ []) []) h

act_behind : (t : Exchange) (x y : List Exchange) → Alike x y → acts_of t x ≡ acts_of t y
act_behind t x y h = grind arith

behind : (t : Exchange) (x y : List Exchange) → Alike x y → Alike (t ∷ x) (t ∷ y)
behind t x y h = record {
  ahead = units_behind t x y h.ahead;
  script = ap (λ n. where_over n [] (turns_of t ++ script_ahead x)) (units_behind t x y h.ahead)
      ∙ ap (λ s. where_over (units_ahead (t ∷ y)) [] (turns_of t ++ s)) h.script;
  ends = fate_behind t x y h.ends;
  does = ap (λ a. a ++ acts x) (act_behind t x y h) ∙ ap (λ a. acts_of t y ++ a) h.does;
}

all_behind : (z x y : List Exchange) → Alike x y → Alike (z ++ x) (z ++ y)
all_behind [] x y h = h
all_behind (t ∷ z) x y h = behind t (z ++ x) (z ++ y) (all_behind z x y h)

-- What changed nothing.

gone : (x : List Exchange) → (t : Exchange) → units_ahead (t ∷ x) ≡ units_ahead x → turns_of t ≡ [] → fate_ahead (t ∷ x) ≡ fate_ahead x
    → acts_of t x ≡ [] → Alike (t ∷ x) x
gone x t u s f a = record {
  ahead = u;
  script = ap (λ n. where_over n [] (turns_of t ++ script_ahead x)) u ∙ ap (λ l. where_over (units_ahead x) [] (l ++ script_ahead x)) s
      ∙ sym (same_script x);
  ends = f;
  does = ap (λ l. l ++ acts x) a;
}

-- what changes nothing tells nothing to the ledger or of an arm, and may be left out
abbrev pub Unmoved : Exchange → Type 0
Unmoved t = ((u : ℕ) → (is_reset t ≡ false) × (is_accepted u t ≡ false) × ((end : UnitStatus) → stores_end end u t ≡ false)
    × (arrives u t ≡ false))
    × ((x : List Exchange) → Alike (t ∷ x) x)

pub unmoved : (t : Exchange) → changes_nothing t ≡ true → Unmoved t
unmoved t h = (
  λ u. (grind arith, grind arith, λ end. grind arith, grind arith),
  λ x. gone x t (grind arith) (grind (arith, no_units))
      (grind arith) (grind arith),
)

-- alike, and of plain exchanges
abbrev Plainly : List Exchange → List Exchange → Type 0
Plainly x y = Alike x y × ArePlain x

filtered : (list : List Exchange) → ArePlain list → Plainly (filter (λ t. not (changes_nothing t)) list) list
filtered [] h = (same [], tt)
filtered (t ∷ list) h =
    let rest = filter (λ t. not (changes_nothing t)) list in
    let r = filtered list h.1 in
    cond_both (not (changes_nothing t)) (t ∷ rest) rest (λ l. Plainly l (t ∷ list)) (λ e. (behind t rest list r.0, (h.0, r.1)))
    (λ e. (then r.0 (back ((unmoved t (not-false _ e)).1 list)), r.1))

-- Arrivals.

pub arrival_gone : (t : Exchange) (x : List Exchange) → is_arrival t ≡ true → Alike (t ∷ x) x
arrival_gone t x h = gone x t (grind arith) (grind arith) (grind arith) (grind arith)

-- arrivals that are held back
abbrev AreArrivals : List Exchange → Type 0
AreArrivals [] = Unit {0}
AreArrivals (t ∷ rest) = (is_arrival t ≡ true) × (t.1 ≡ None) × AreArrivals rest

one_more : (held : List Exchange) (t : Exchange) → AreArrivals held → is_arrival t ≡ true → t.1 ≡ None → AreArrivals (held ++ t ∷ [])
one_more [] t h k p = (k, p, tt)
one_more (a ∷ held) t h k p = (h.0, h.1, one_more held t h.2 k p)

held_gone : (held x y : List Exchange) → AreArrivals held → Plainly x y → Plainly (held ++ x) y
held_gone [] x y h r = r
held_gone (t ∷ held) x y h r = let k = held_gone held x y h.2 r in (then (arrival_gone t (held ++ x) h.0) k.0, (h.1, k.1))

shifted : (list : List Exchange) (inside : Bool) (held : List Exchange) → AreArrivals held → ArePlain list
    → Plainly (arrivals_last inside held list) list
shifted [] inside held h p = subst (λ l. Plainly l []) (append-nil held) (held_gone held [] [] h (same [], tt))
shifted (t ∷ rest) inside held h p =
    cond_both (is_arrival t && (inside && steps_ahead rest)) _ _ (λ l. Plainly l (t ∷ rest))
    (λ e. let a = (and_parts (is_arrival t) _ e).0 in let r = shifted rest inside (held ++ t ∷ []) (one_more held t h a p.0) p.1 in
    (then r.0 (back (arrival_gone t rest a)), r.1))
    (λ e. cond_both (is_step t && not (steps_ahead rest)) _ _ (λ l. Plainly l (t ∷ rest))
    (λ e. let r = held_gone held _ rest h (shifted rest false [] tt p.1) in (behind t _ rest r.0, (p.0, r.1)))
    (λ e. let r = shifted rest (is_step t || (inside && not (is_between t))) held h p.1 in (behind t _ rest r.0, (p.0, r.1))))

-- Steps.

two_steps : (a b : ℕ) (x : List Exchange) → Alike (whole_step a ∷ whole_step b ∷ x) (whole_step (a + b) ∷ x)
two_steps a b x =
    let n = units_ahead x in
    let s = script_ahead x in
    let more : a + (b + n) ≡ a + b + n = omega arith in
    record {
      ahead = more;
      script = ap (λ l. where_over (a + (b + n)) [] (units a ++ l)) (sym (step_script b None x))
          ∙ ap (λ k. where_over k [] (units a ++ (units b ++ s))) more
          ∙ ap (λ l. where_over (a + b + n) [] l) (sym (append_assoc (units a) (units b) s) ∙ ap (λ l. l ++ s) (plain_two a b));
      ends = refl;
      does = refl;
    }

no_step : (x : List Exchange) → Alike (whole_step 0 ∷ x) x
no_step x = (unmoved (whole_step 0) refl).1 x

many : (q n : ℕ) (x : List Exchange) → Alike (replicate q (whole_step n) ++ x) (whole_step (q * n) ∷ x)
many zero n x = let none : 0 ≡ 0 * n = omega arith in subst (λ k. Alike x (whole_step k ∷ x)) none (back (no_step x))
many (suc q) n x =
    let next : n + q * n ≡ suc q * n = grind arith in
    subst (λ k. Alike (replicate (suc q) (whole_step n) ++ x) (whole_step k ∷ x)) next (then (behind (whole_step n) _ _ (many q n x))
    (two_steps n (q * n) x))

steps_alike : (n : ℕ) (x : List Exchange) → Alike (steps_of n ++ x) (whole_step n ∷ x)
steps_alike n x =
    let all : n / 65535 * 65535 + n % 65535 ≡ n = omega arith in
    rw (append_assoc (replicate (n / 65535) (whole_step 65535)) last x)
    (subst (λ k. Alike (replicate (n / 65535) (whole_step 65535) ++ (last ++ x)) (whole_step k ∷ x)) all
    (then (all_behind (replicate (n / 65535) (whole_step 65535)) (last ++ x) (whole_step (n % 65535) ∷ x) last_alike)
    (then (many (n / 65535) 65535 (whole_step (n % 65535) ∷ x)) (two_steps (n / 65535 * 65535) (n % 65535) x))))
  where
    last : List Exchange
    last = cond (n % 65535 == 0) [] (whole_step (n % 65535) ∷ [])

    last_alike : Alike (last ++ x) (whole_step (n % 65535) ∷ x)
    last_alike = cond_both (n % 65535 == 0) [] (whole_step (n % 65535) ∷ []) (λ l. Alike (l ++ x) (whole_step (n % 65535) ∷ x))
        (λ h. subst (λ k. Alike x (whole_step k ∷ x)) (sym (eqb-true _ _ h)) (back (no_step x))) (λ h. same (whole_step (n % 65535) ∷ x))

plain_step : (k d : ℕ) (m : Option FaultAfter) (x : List Exchange) → m ≡ None → Alike (whole_step d ∷ x) ((StepBy k, m, Stepped d) ∷ x)
plain_step k d m x h = rw h (record { ahead = refl; script = refl; ends = refl; does = refl })

joined : (list : List Exchange) (n : ℕ) → ArePlain list → Alike (steps_joined n list) (whole_step n ∷ list)
joined [] n h = subst (λ l. Alike l (whole_step n ∷ [])) (append-nil (steps_of n)) (steps_alike n [])
joined ((StepBy k, m, Stepped d) ∷ rest) n h =
    then (joined rest (n + d) h.1) (then (back (two_steps n d rest)) (behind (whole_step n) _ _ (plain_step k d m rest h.0)))
joined (t ∷ rest) n h =
    then (steps_alike n (t ∷ steps_joined 0 rest)) (behind (whole_step n) _ _ (behind t _ _ (then (joined rest 0 h.1) (no_step rest))))

pub same_acts : SameActs
same_acts list h =
    let left = filtered list h in
    let last = shifted (filter (λ t. not (changes_nothing t)) list) false [] tt left.1 in
    (then (joined _ 0 last.1) (then (no_step _) (then last.0 left.0))).does
