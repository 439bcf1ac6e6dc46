-- The first record of a number.
use Rattle.std.proofs.Common.{ℕ, ◌<◌, ◌≤◌, ◌≡◌, List, Bool, true, false, length, get_or, Some, None, arith, rules, tests}
use Rattle.std.specs.List.{position}
use Rattle.std.proofs.lemmas.List.Sums.{position_or_len_is}

module _ {X : Type 0} (p : X → Bool) (xs : List X) (d : X) where
  pub found_at : (i : ℕ) → i < length xs → ((k : ℕ) → k < i → p (get_or xs k d) ≡ false) → p (get_or xs i d) ≡ true → Some i ≡ position p xs
  found_at i inside before here =
      let e = position_or_len_is p xs i d (omega (arith, inside)) before (λ _. here) in
      rw (e) (search (rules, tests, inside))

  pub found_nowhere : (n : ℕ) → length xs ≤ n → ((k : ℕ) → k < n → p (get_or xs k d) ≡ false) → position p xs ≡ None
  found_nowhere n passed all =
      let e = position_or_len_is p xs (length xs) d (omega arith) (λ k below. all k (omega (arith, below, passed)))
      (λ below. absurd (omega (arith, below))) in
      rw (e) (search (rules, tests))
