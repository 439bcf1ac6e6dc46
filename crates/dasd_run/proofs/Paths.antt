-- Paths that are joined.
use Rattle.std.proofs.Common.{◌≡◌, List, [], ◌∷◌, ◌++◌, map, flat_map, refl, ap}
use Rattle.std.specs.List.{join_by}

module _ {X A : Type 0} (text : X → List A) (between : List A) where
  behind : (xs : List X) → flat_map (λ x. between ++ text x) xs ≡ flat_map (λ y. between ++ y) (map text xs)
  behind [] = refl
  behind (x ∷ xs) = ap (λ l. (between ++ text x) ++ l) (behind xs)

  pub joined_texts : (xs : List X) → join_by text between xs ≡ join_by (λ y. y) between (map text xs)
  joined_texts [] = refl
  joined_texts (x ∷ xs) = ap (λ l. text x ++ l) (behind xs)
