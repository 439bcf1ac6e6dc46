-- The first record of a track that is a free control block, looked for one after another.
use Rattle.std.proofs.Common.{◌≡◌, ◌∙◌, ap, ℕ, ◌+◌, ◌<◌, ◌≤◌, Bool, true, false, if◌then◌else◌, List, length, drop, get_or, Option, Some}
use Rattle.std.proofs.Common.{None}
use Rattle.std.proofs.lemmas.List.{at_drop_more, at_drop_all}
use Rattle.std.specs.List.{position_from}

module _ {A : Type 0} (test : A → Bool) (first : Option ℕ) (xs : List A) (i : ℕ) where
  -- what is found from a place on, by whether the one there passes
  from_here : (d : A) → i < length xs → first ≡ position_from test i (drop i xs)
      → first ≡ (if test (get_or xs i d) then Some i else position_from test (i + 1) (drop (i + 1) xs))
  from_here d inside is = is ∙ at_drop_more (position_from test i) xs i d inside

  -- one that does not pass
  pub passed : (d : A) → i < length xs → test (get_or xs i d) ≡ false → first ≡ position_from test i (drop i xs)
      → first ≡ position_from test (i + 1) (drop (i + 1) xs)
  passed d inside other is =
      from_here d inside is ∙ ap (λ (it : Bool). if it then Some i else position_from test (i + 1) (drop (i + 1) xs)) other

  -- one that passes is the first
  pub found : (d : A) → i < length xs → test (get_or xs i d) ≡ true → first ≡ position_from test i (drop i xs) → first ≡ Some i
  found d inside that is =
      from_here d inside is ∙ ap (λ (it : Bool). if it then Some i else position_from test (i + 1) (drop (i + 1) xs)) that

  -- there is none
  pub none : length xs ≤ i → first ≡ position_from test i (drop i xs) → first ≡ None
  none passed is = is ∙ at_drop_all (position_from test i) xs i passed
