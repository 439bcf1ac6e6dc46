-- Marks of tracks, as claims leave them.
use Rattle.std.proofs.Common.{◌≡◌, ◌∙◌, ap, sym, refl, ℕ, ◌+◌, ◌-◌, ◌≤◌, ◌<◌, Bool, true, false, ◌&&◌, ◌||◌, nat_le, nat_lt, cond, List}
use Rattle.std.proofs.Common.{◌++◌, length, get_or}
use Rattle.std.proofs.Common.{take, drop, replicate, Option, Some, None, is_some, position, slice_range, true≢false, arith}
use Rattle.std.specs.List.{position_or_len}
use Rattle.std.proofs.lemmas.Bool.{ltb-false, leb-true, ltb-true, and_parts, or_parts, both_ways}
use Rattle.std.proofs.lemmas.Bool.Decides.{nat_tests}
use Rattle.std.proofs.lemmas.List.{places}
use Rattle.std.proofs.lemmas.List.Sums.{fails_before_first}
use Rattle.volume_contents.specs.Claims.{is_taken, place_taken, behind_first, first_taken, end_of_claim, marked_up_to, claimed}

-- the marks behind a claim of the tracks that pass a test: each of them was free, and is marked; the others stay
pub record Claims (marks now : List ℕ) (has : ℕ → Bool) : Type 0 where
  pub size : length now ≡ length marks
  pub free : (n : ℕ) → has n ≡ true → get_or marks n 0 ≡ 0
  pub mine : (n : ℕ) → has n ≡ true → get_or now n 0 ≡ 1
  pub others : (n : ℕ) → has n ≡ false → get_or now n 0 ≡ get_or marks n 0

-- the same tracks by another test
pub claims_like : {marks now : List ℕ} {p : ℕ → Bool} (q : ℕ → Bool) → ((n : ℕ) → q n ≡ p n) → Claims marks now p → Claims marks now q
claims_like q same c = record {
  size = c.size;
  free = λ n has. c.free n (sym (same n) ∙ has);
  mine = λ n has. c.mine n (sym (same n) ∙ has);
  others = λ n has. c.others n (sym (same n) ∙ has);
}

-- none
pub claims_none : (marks : List ℕ) (p : ℕ → Bool) → ((n : ℕ) → p n ≡ false) → Claims marks marks p
claims_none marks p none = record {
  size = refl;
  free = λ n has. absurd (both_ways (p n) (none n) has);
  mine = λ n has. absurd (both_ways (p n) (none n) has);
  others = λ n has. refl;
}

-- two claims, one after the other
pub claims_both : {a b c : List ℕ} (p q : ℕ → Bool) → Claims a b p → Claims b c q → Claims a c (λ n. p n || q n)
claims_both {a} {b} {c} p q first second = record {
  size = second.size ∙ first.size;
  free = free;
  mine = mine;
  others = λ n has. let h = or_parts (p n) (q n) has in second.others n h.1 ∙ first.others n h.0;
}
  where
    free : (n : ℕ) → (p n || q n) ≡ true → get_or a n 0 ≡ 0
    free n has = by (p n) refl
      where
        by : (x : Bool) → p n ≡ x → get_or a n 0 ≡ 0
        by true e = first.free n e
        by false e = sym (first.others n e) ∙ second.free n (sym (ap (λ x. x || q n) e) ∙ has)

    mine : (n : ℕ) → (p n || q n) ≡ true → get_or c n 0 ≡ 1
    mine n has = by (q n) refl (p n) refl
      where
        by : (y : Bool) → q n ≡ y → (x : Bool) → p n ≡ x → get_or c n 0 ≡ 1
        by true e x f = second.mine n e
        by false e true f = second.others n e ∙ first.mine n f
        by false e false f = absurd (true≢false (sym has ∙ ap (λ x. x || q n) f ∙ e))

-- no test passes where there is no first
not_found : (b : Bool) (n : ℕ) → cond b (Some n) None ≡ None → b ≡ false
not_found true n e = absurd (true≢false (ap (λ (o : Option ℕ). is_some o) e))
not_found false n e = refl

none_passes : (p : ℕ → Bool) (xs : List ℕ) (i : ℕ) → position p xs ≡ None → i < length xs → p (get_or xs i 0) ≡ false
none_passes p xs i none inside =
    let e = not_found (nat_lt (position_or_len p xs) (length xs)) (position_or_len p xs) none in
    let all : length xs ≤ position_or_len p xs = ltb-false (position_or_len p xs) (length xs) e in
    fails_before_first p xs i 0 (omega (arith, all, inside))

untaken : (x : ℕ) → is_taken x ≡ false → x ≡ 0
untaken x e = grind (arith, nat_tests)

no_place : (first tracks : ℕ) (o : Option ℕ) → behind_first (record { first = first; tracks = tracks }) o ≡ None → o ≡ None
no_place first tracks None e = refl
no_place first tracks (Some i) e = absurd (true≢false (ap (λ (o : Option ℕ). is_some o) e))

-- so many tracks from one on have track n
abbrev pub in_run : (first tracks n : ℕ) → Bool
in_run first tracks n = nat_le first n && nat_lt n (first + tracks)

record Within (first tracks n : ℕ) : Type 0 where
  pub low : first ≤ n
  pub high : n < first + tracks

within : (first tracks n : ℕ) → in_run first tracks n ≡ true → Within first tracks n
within first tracks n has =
    let h = and_parts (nat_le first n) (nat_lt n (first + tracks)) has in record {
      low = leb-true first n h.0;
      high = ltb-true n (first + tracks) h.1;
    }

module _ (marks : List ℕ) (first tracks : ℕ) (room : first + tracks ≤ length marks)
    (none : first_taken marks (record { first = first; tracks = tracks }) ≡ None) where
  place : place_taken marks (record { first = first; tracks = tracks }) ≡ None
  place = no_place first tracks (place_taken marks (record { first = first; tracks = tracks })) none

  abbrev now : List ℕ
  now = claimed marks (record { first = first; tracks = tracks })

  parts : now ≡ take first marks ++ (replicate tracks 1 ++ drop (first + tracks) marks)
  parts =
      let all : first + tracks - first ≡ tracks = omega arith in
      ap (λ (o : Option ℕ). marked_up_to marks first (end_of_claim (record { first = first; tracks = tracks }) o)) place
      ∙ ap (λ (k : ℕ). take first marks ++ (replicate k 1 ++ drop (first + tracks) marks)) all

  run_size : length now ≡ length marks
  run_size = ap length parts ∙ grind (arith, places)

  run_free : (n : ℕ) → in_run first tracks n ≡ true → get_or marks n 0 ≡ 0
  run_free n has =
      let w = within first tracks n has in
      let some = slice_range marks first (first + tracks) in
      let long : n - first < length some = grind (arith, places, w.low, w.high) in
      let it : get_or some (n - first) 0 ≡ get_or marks n 0 = grind (arith, places, w.low, w.high) in
      sym it ∙ untaken (get_or some (n - first) 0) (none_passes is_taken some (n - first) place long)

  run_mine : (n : ℕ) → in_run first tracks n ≡ true → get_or now n 0 ≡ 1
  run_mine n has = let w = within first tracks n has in ap (λ (l : List ℕ). get_or l n 0) parts ∙ grind (arith, places, w.low, w.high)

  run_others : (n : ℕ) → in_run first tracks n ≡ false → get_or now n 0 ≡ get_or marks n 0
  run_others n has = ap (λ (l : List ℕ). get_or l n 0) parts ∙ grind (arith, places, nat_tests)

  -- a run none of whose tracks is taken
  pub claims_run : Claims marks now (in_run first tracks)
  claims_run = record { size = run_size; free = run_free; mine = run_mine; others = run_others }
