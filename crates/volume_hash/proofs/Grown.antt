-- Lines and tests that go on one element after another.
use Rattle.std.proofs.Common.{◌≡◌, ◌∙◌, ap, sym, refl, ℕ, ◌+◌, ◌<◌, ◌≤◌, ◌&&◌, Bool}
use Rattle.std.proofs.Common.{true, false, List, [], ◌++◌, length, take, get_or, append-nil, append_assoc, flat_map}
use Rattle.std.specs.List.{list_all}
use Rattle.std.proofs.lemmas.List.{flat_map_more, take_more, take_all}
use Rattle.std.proofs.lemmas.List.Folds.{list_all_more}

and_true : (b : Bool) → b ≡ (b && true)
and_true true = refl
and_true false = refl

and_assoc : (x y z : Bool) → ((x && y) && z) ≡ (x && (y && z))
and_assoc true y z = refl
and_assoc false y z = refl

-- one text behind another, and one test after another
pub joined : (a b c x y : List ℕ) → b ≡ a ++ x → c ≡ b ++ y → c ≡ a ++ (x ++ y)
joined a b c x y first next = next ∙ ap (λ l. l ++ y) first ∙ append_assoc a x y

pub both_hold : (a b c x y : Bool) → b ≡ (a && x) → c ≡ (b && y) → c ≡ (a && (x && y))
both_hold a b c x y first next = next ∙ ap (λ t. t && y) first ∙ and_assoc a x y

-- none
pub no_text : (a : List ℕ) → a ≡ a ++ []
no_text a = sym (append-nil a)

pub no_test : (b : Bool) → b ≡ (b && true)
no_test b = and_true b

module _ {X : Type 0} (xs : List X) (i : ℕ) where
  -- one more
  pub one_more_text : (text : X → List ℕ) (a b c : List ℕ) (d : X) → i < length xs
      → b ≡ a ++ flat_map text (take i xs) → c ≡ b ++ text (get_or xs i d) → c ≡ a ++ flat_map text (take (i + 1) xs)
  one_more_text text a b c d inside first next =
      next ∙ ap (λ l. l ++ text (get_or xs i d)) first ∙ flat_map_more text a (take i xs) (get_or xs i d)
      ∙ ap (λ l. a ++ flat_map text l) (sym (take_more xs i d inside))

  pub one_more_test : (p : X → Bool) (a b c : Bool) (d : X) → i < length xs
      → b ≡ (a && list_all p (take i xs)) → c ≡ (b && p (get_or xs i d)) → c ≡ (a && list_all p (take (i + 1) xs))
  one_more_test p a b c d inside first next =
      next ∙ ap (λ t. t && p (get_or xs i d)) first ∙ and_assoc a (list_all p (take i xs)) (p (get_or xs i d))
      ∙ ap (λ t. a && t) (sym (list_all_more p xs i d inside))

  -- all of them
  pub all_text : (text : X → List ℕ) (a b : List ℕ) → length xs ≤ i → b ≡ a ++ flat_map text (take i xs) → b ≡ a ++ flat_map text xs
  all_text text a b passed are = are ∙ ap (λ l. a ++ flat_map text l) (take_all i xs passed)

  pub all_tests : (p : X → Bool) (a b : Bool) → length xs ≤ i → b ≡ (a && list_all p (take i xs)) → b ≡ (a && list_all p xs)
  all_tests p a b passed are = are ∙ ap (λ l. a && list_all p l) (take_all i xs passed)
