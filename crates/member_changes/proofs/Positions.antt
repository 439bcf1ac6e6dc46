-- The first element of a list that passes a test of what is said of it.
use Rattle.std.proofs.Common.{◌≡◌, ◌∙◌, ap, refl, ℕ, ◌+◌, Bool, cond, not, nat_lt, List, [], ◌∷◌, length, map, Some, None}
use Rattle.std.proofs.lemmas.List.{length-map}
use Rattle.std.specs.List.{position, position_or_len}

module _ {A B : Type 0} (test : B → Bool) (of : A → B) where
  in_front : (xs : List A) → position_or_len test (map of xs) ≡ position_or_len (λ x. test (of x)) xs
  in_front [] = refl
  in_front (x ∷ xs) = ap (λ (n : ℕ). cond (not (test (of x))) (1 + n) 0) (in_front xs)

  pub position_of_map : (xs : List A) → position test (map of xs) ≡ position (λ x. test (of x)) xs
  position_of_map xs =
      let n = position_or_len (λ x. test (of x)) xs in
      ap (λ (k : ℕ). cond (nat_lt k (length (map of xs))) (Some k) None) (in_front xs)
      ∙ ap (λ (size : ℕ). cond (nat_lt n size) (Some n) None) (length-map xs of)
