-- Parts of a list, by what is said of its elements.
use Rattle.std.proofs.Common.{◌≡◌, ◌∙◌, ap, ap₂, sym, ℕ, ◌-◌, List, []}
use Rattle.std.proofs.Common.{◌∷◌, ◌++◌, length, map, take, drop, append_assoc, length-drop, arith}
use Rattle.std.proofs.lemmas.List.{take-map, drop-map, take_all}

module _ {A B : Type 0} (of : A → B) (xs : List A) where
  before : (none : List A) (a : List B) (i : ℕ) → none ≡ [] → a ≡ map of none ++ map of (take i xs) → a ≡ take i (map of xs)
  before none a i is parts = parts ∙ ap (λ (l : List A). map of l ++ map of (take i xs)) is ∙ sym (take-map of i xs)

  after : (i : ℕ) → map of (take (length xs - i) (drop i xs)) ≡ drop i (map of xs)
  after i =
      ap (map of) (take_all (length xs - i) (drop i xs) (omega (arith, length-drop i xs))) ∙ sym (drop-map of i xs)

  -- those before one place, and those from another on
  pub two_parts : (none : List A) (a b : List B) (i j : ℕ) → none ≡ [] → a ≡ map of none ++ map of (take i xs)
      → b ≡ a ++ map of (take (length xs - j) (drop j xs)) → b ≡ take i (map of xs) ++ drop j (map of xs)
  two_parts none a b i j is first second = second ∙ ap₂ (λ (u v : List B). u ++ v) (before none a i is first) (after j)

  -- all of them, with one more at a place
  pub one_between : (none : List A) (a b d : List B) (one : B) (i : ℕ) → none ≡ [] → a ≡ map of none ++ map of (take i xs)
      → b ≡ a ++ one ∷ []
      → d ≡ b ++ map of (take (length xs - i) (drop i xs)) → d ≡ take i (map of xs) ++ one ∷ drop i (map of xs)
  one_between none a b d one i is first second third =
      third ∙ ap₂ (λ (u v : List B). u ++ v) (second ∙ ap (λ (l : List B). l ++ one ∷ []) (before none a i is first)) (after i)
      ∙ append_assoc (take i (map of xs)) (one ∷ []) (drop i (map of xs))
