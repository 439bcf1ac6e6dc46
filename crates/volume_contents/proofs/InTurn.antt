-- What is found of the elements of a list, each of which leaves a state for the next.
use Rattle.std.proofs.Common.{◌≡◌, ◌∙◌, ◌+◌, ◌<◌, ◌≤◌, ◌++◌, [], ◌∷◌, ap, sym, ℕ, List, length, drop, get_or, fold, append_assoc}
use Rattle.std.proofs.Common.{append-nil}
use Rattle.std.proofs.lemmas.List.{drop_more, drop_all}

module _ {S A B : Type 0} (out : S → A → List B) (next : S → A → S) (all : S → List A → List B) (none : (s : S) → all s [] ≡ [])
    (more : (s : S) (x : A) (xs : List A) → all s (x ∷ xs) ≡ out s x ++ all (next s x) xs) where
  -- one more was found
  pub one_found : (found now total : List B) (s : S) (xs : List A) (i : ℕ) (d : A) → i < length xs
      → now ≡ found ++ out s (get_or xs i d) → found ++ all s (drop i xs) ≡ total → now ++ all (next s (get_or xs i d)) (drop (i + 1) xs)
      ≡ total
  one_found found now total s xs i d inside is known =
      ap (λ l. l ++ all (next s (get_or xs i d)) (drop (i + 1) xs)) is
      ∙ append_assoc found (out s (get_or xs i d)) (all (next s (get_or xs i d)) (drop (i + 1) xs))
      ∙ ap (λ l. found ++ l) (sym (more s (get_or xs i d) (drop (i + 1) xs)))
      ∙ ap (λ l. found ++ all s l) (sym (drop_more xs i d inside))
      ∙ known

  -- what is found of those that are left begins with what is found of the first of them
  pub rest_begins : (s : S) (xs : List A) (i : ℕ) (d : A) → i < length xs
      → all s (drop i xs) ≡ out s (get_or xs i d) ++ all (next s (get_or xs i d)) (drop (i + 1) xs)
  rest_begins s xs i d inside = ap (all s) (drop_more xs i d inside) ∙ more s (get_or xs i d) (drop (i + 1) xs)

  -- all were found
  pub all_found : (found total : List B) (s : S) (xs : List A) (i : ℕ) → length xs ≤ i → found ++ all s (drop i xs) ≡ total → found ≡ total
  all_found found total s xs i passed known =
      sym (append-nil found) ∙ ap (λ l. found ++ l) (sym (none s)) ∙ ap (λ l. found ++ all s l) (sym (drop_all i xs passed)) ∙ known

module _ {S A : Type 0} (next : S → A → S) (s total : S) (xs : List A) (i : ℕ) where
  -- the state behind one more
  pub one_left : (d : A) → i < length xs → fold next s (drop i xs) ≡ total → fold next (next s (get_or xs i d)) (drop (i + 1) xs) ≡ total
  one_left d inside known = sym (ap (fold next s) (drop_more xs i d inside)) ∙ known

  -- the state behind all
  pub all_left : length xs ≤ i → fold next s (drop i xs) ≡ total → s ≡ total
  all_left passed known = sym (ap (fold next s) (drop_all i xs passed)) ∙ known
