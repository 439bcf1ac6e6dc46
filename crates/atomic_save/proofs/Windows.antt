-- Bytes of a change over those of its file from a place on.
use Rattle.std.proofs.Common.{◌≡◌, ⊎_elim, ℕ, ◌+◌, ◌-◌, ◌<◌, ◌≤◌, List, ◌++◌, length, get_or, take, drop, min, max, true, false, cond}
use Rattle.std.proofs.Common.{nat_le, ◌==◌, refl, sym, ap, ◌∙◌, length-take, length-drop, arith}
use Rattle.std.proofs.lemmas.Bool.{cases_lt, lt-ltb, le-ltb, le-leb, lt-leb, eq-eqb, and_from, and_left, and_right}
use Rattle.std.proofs.lemmas.List.{get_or-take, get_or-drop}
use Rattle.std.proofs.lemmas.Grind.{common_steps}
use Rattle.atomic_save.specs.Changes.{Note, covers, byte_of}

module _ (n : Note) (at k : ℕ) where
  pub off_below : at + k < n.at → covers n n.file (at + k) ≡ false
  off_below lt = and_right (n.file == n.file) _ (and_left (nat_le n.at (at + k)) _ (lt-leb _ _ lt))

  pub off_above : n.at + length n.bytes ≤ at + k → covers n n.file (at + k) ≡ false
  off_above le = and_right (n.file == n.file) _ (and_right (nat_le n.at (at + k)) _ (le-ltb _ _ le))

  pub on : n.at ≤ at + k → at + k < n.at + length n.bytes → covers n n.file (at + k) ≡ true
  on le lt = and_from _ _ (eq-eqb n.file n.file refl) (and_from _ _ (le-leb _ _ le) (lt-ltb _ _ lt))

  pub stays : (b : ℕ) → covers n n.file (at + k) ≡ false → b ≡ byte_of n n.file (at + k) b
  stays b isnt = sym (ap (λ t. cond t (get_or n.bytes (at + k - n.at) 0) b) isnt)

  pub changes : (b : ℕ) → covers n n.file (at + k) ≡ true → get_or n.bytes (at + k - n.at) 0 ≡ byte_of n n.file (at + k) b
  changes b is = sym (ap (λ t. cond t (get_or n.bytes (at + k - n.at) 0) b) is)

before_part : (xs ys : List ℕ) (to k : ℕ) → k < to → to + length ys ≤ length xs
    → get_or (take to xs ++ ys ++ drop (to + length ys) xs) k 0 ≡ get_or xs k 0
before_part xs ys to k lt fits = grind (arith, common_steps)

in_part : (xs ys : List ℕ) (to k : ℕ) → to ≤ k → k < to + length ys → to + length ys ≤ length xs
    → get_or (take to xs ++ ys ++ drop (to + length ys) xs) k 0 ≡ get_or ys (k - to) 0
in_part xs ys to k le lt fits = grind (arith, common_steps)

after_part : (xs ys : List ℕ) (to k : ℕ) → to + length ys ≤ k → to + length ys ≤ length xs
    → get_or (take to xs ++ ys ++ drop (to + length ys) xs) k 0 ≡ get_or xs k 0
after_part xs ys to k le fits = grind (arith, common_steps)

-- The bytes of a change that a window of its file has in common with it: `count` of them, from the place `first` on.
pub record InCommon (n : Note) (at : ℕ) (xs : List ℕ) (first count : ℕ) (part : List ℕ) : Type 0 where
  pub first_is : first ≡ max n.at at
  pub count_is : count ≡ min (length n.bytes - (first - n.at)) (length xs - (first - at))
  pub in_change : first - n.at < length n.bytes
  pub in_window : first - at < length xs
  pub part_is : part ≡ take count (drop (first - n.at) n.bytes)

-- the bytes of the window after these are put into it
pub laid : (n : Note) (at : ℕ) (xs : List ℕ) (first count : ℕ) (part : List ℕ) → InCommon n at xs first count part → (k : ℕ) → k < length xs
    → get_or (take (first - at) xs ++ part ++ drop (first - at + length part) xs) k 0 ≡ byte_of n n.file (at + k) (get_or xs k 0)
laid n at xs first count part common k lt =
    ⊎_elim (λ before. before_part xs part to k before fits ∙ stays n at k (get_or xs k 0)
    (off_below n at k (omega (arith, common.first_is, before))))
    (λ since. ⊎_elim (λ in-it. in_part xs part to k since (omega (arith, long, in-it)) fits ∙ byte since in-it
    ∙ changes n at k (get_or xs k 0) (on n at k (omega (arith, common.first_is, since))
    (omega (arith, common.first_is, common.count_is, common.in_change, common.in_window, since, in-it))))
    (λ behind. after_part xs part to k (omega (arith, long, behind)) fits ∙ stays n at k (get_or xs k 0)
    (off_above n at k (omega (arith, common.first_is, common.count_is, common.in_change, common.in_window, behind, lt))))
    (cases_lt k (to + count))) (cases_lt k to)
  where
    from : ℕ
    from = first - n.at

    to : ℕ
    to = first - at

    long : length part ≡ count
    long =
        ap length common.part_is
        ∙ omega (arith, length-take count (drop from n.bytes), length-drop from n.bytes, common.count_is, common.in_change)

    fits : to + length part ≤ length xs
    fits = omega (arith, long, common.count_is, common.in_window)

    byte : to ≤ k → k < to + count → get_or part (k - to) 0 ≡ get_or n.bytes (at + k - n.at) 0
    byte since in-it =
        ap (λ l. get_or l (k - to) 0) common.part_is ∙ get_or-take count (drop from n.bytes) (k - to) 0 (omega (arith, since, in-it))
        ∙ get_or-drop from n.bytes (k - to) 0 ∙ ap (λ i. get_or n.bytes i 0) (omega (arith, common.first_is, since))
