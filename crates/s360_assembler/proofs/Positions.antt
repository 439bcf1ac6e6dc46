-- The first element of a list that passes.
use Rattle.std.proofs.Common.{◌≡◌, ◌+◌, ◌<◌, ◌≤◌, ℕ, List, [], ◌∷◌, Bool, true, false, Option, Some, None, not, cond, get_or, drop, length}
use Rattle.std.proofs.Common.{refl, arith}
use Rattle.std.specs.List.{position_or_len, position, prefix_len}
use Rattle.std.proofs.lemmas.List.Sums.{prefix_len-drop_yes, prefix_len-drop_no, prefix_len-drop_all}
use Rattle.std.proofs.lemmas.Bool.Decides.{nat_tests}

-- the place of one that passes
pub at_some : (p : ℕ → Bool) (xs : List ℕ) (at : ℕ) → Some at ≡ position p xs → at ≡ position_or_len p xs
at_some p xs at is = grind (arith, nat_tests)

pub inside_some : (p : ℕ → Bool) (xs : List ℕ) (at : ℕ) → Some at ≡ position p xs → at < length xs
inside_some p xs at is = grind (arith, nat_tests)

short : (p : ℕ → Bool) (xs : List ℕ) → prefix_len p xs ≤ length xs
short p [] = omega arith
short p (x ∷ xs) = go (p x) (short p xs)
  where
    go : (b : Bool) → prefix_len p xs ≤ length xs → cond b (1 + prefix_len p xs) 0 ≤ length (x ∷ xs)
    go true most = omega (arith, most)
    go false most = omega arith

-- none passes
pub at_none : (p : ℕ → Bool) (xs : List ℕ) → None ≡ position p xs → length xs ≡ position_or_len p xs
at_none p xs is =
    let most : position_or_len p xs ≤ length xs = short (λ x. not (p x)) xs in
    grind (arith, nat_tests)

-- one element more does not pass
pub passed : (p : ℕ → Bool) (xs : List ℕ) (k : ℕ) → k < length xs → p (get_or xs k 0) ≡ false
    → k + position_or_len p (drop k xs) ≡ position_or_len p xs → (k + 1) + position_or_len p (drop (k + 1) xs) ≡ position_or_len p xs
passed p xs k inside fails is = omega (arith, is, prefix_len-drop_yes (λ x. not (p x)) xs k 0 inside (rw fails refl))

-- none has passed
pub missed : (p : ℕ → Bool) (xs : List ℕ) (k : ℕ) → length xs ≤ k
    → k + position_or_len p (drop k xs) ≡ position_or_len p xs → None ≡ position p xs
missed p xs k outside is =
    let past : length xs ≤ position_or_len p xs = omega (arith, is, prefix_len-drop_all (λ x. not (p x)) xs k outside) in
    grind (arith, nat_tests)
