-- Texts that are written piece by piece.
use Rattle.std.proofs.Common.{ℕ, ◌+◌, ◌<◌, ◌≤◌, ◌≡◌, ◌∙◌, List, [], ◌++◌, Option, length, take, get_or, ap, sym, subst, flat_map, add-one}
use Rattle.std.proofs.Common.{refl, append_assoc, append-nil, length-append, length-drop, length-take, drop, arith}
use Rattle.std.proofs.lemmas.List.{flat_map_more, take_more, take_all}
use Rattle.std.proofs.lemmas.List.Concat.{flat_map-append}
use Rattle.std.proofs.KnownBytes.{Appends-trans, Appends-nil}
use Rattle.std.specs.Io.KnownBytes.{Appends}
use Rattle.dasd_volumes.specs.Volumes.{of_each}

-- the text of one more element
pub one_more_text : {X : Type 0} (a b c : Option (List ℕ)) (text : X → List ℕ) (before : List ℕ) (xs : List X) (i : ℕ) (d : X)
    → i < length xs
    → Appends a b (before ++ flat_map text (take i xs)) → Appends b c (text (get_or xs i d))
    → Appends a c (before ++ flat_map text (take (i + 1) xs))
one_more_text a b c text before xs i d inside first next =
    subst (Appends a c) (flat_map_more text before (take i xs) (get_or xs i d)
    ∙ ap (λ l. before ++ flat_map text l) (sym (take_more xs i d inside)))
    (Appends-trans a b c _ _ first next)

-- the text of all elements
pub all_texts : {X : Type 0} (a b : Option (List ℕ)) (text : X → List ℕ) (before : List ℕ) (xs : List X) (i : ℕ) → length xs ≤ i
    → Appends a b (before ++ flat_map text (take i xs)) → Appends a b (before ++ flat_map text xs)
all_texts a b text before xs i passed are = rw (take_all i xs passed) at are

-- none, and one more
pub of_none : {A : Type 0} (of : ℕ → List A) → of_each of 0 ≡ []
unfolding of_each
of_none of = refl

pub of_one_more : {A : Type 0} (of : ℕ → List A) (n : ℕ) → of_each of (n + 1) ≡ of_each of n ++ of n
unfolding of_each
of_one_more of n = rw add-one refl

-- the texts of none, and of one more
pub begun : (a b : Option (List ℕ)) (before : List ℕ) (of : ℕ → List ℕ) → Appends a b before → Appends a b (before ++ of_each of 0)
begun a b before of is = subst (Appends a b) (sym (append-nil before) ∙ ap (λ l. before ++ l) (sym (of_none of))) is

pub one_more : (a b c : Option (List ℕ)) (before : List ℕ) (of : ℕ → List ℕ) (n : ℕ)
    → Appends a b (before ++ of_each of n) → Appends b c (of n) → Appends a c (before ++ of_each of (n + 1))
one_more a b c before of n first next =
    subst (Appends a c) (append_assoc before (of_each of n) (of n) ∙ ap (λ l. before ++ l) (sym (of_one_more of n)))
    (Appends-trans a b c _ _ first next)

-- the lines of none, and of one more; and how many they are
module _ {X : Type 0} (line : X → List ℕ) (of : ℕ → List X) where
  pub no_lines : (a : Option (List ℕ)) → Appends a a (flat_map line (of_each of 0))
  no_lines a = rw (of_none of) (Appends-nil a)

  pub more_lines : (a b c : Option (List ℕ)) (n : ℕ) → Appends a b (flat_map line (of_each of n)) → Appends b c (flat_map line (of n))
      → Appends a c (flat_map line (of_each of (n + 1)))
  more_lines a b c n first next =
      subst (Appends a c) (sym (ap (flat_map line) (of_one_more of n) ∙ flat_map-append line (of_each of n) (of n)))
      (Appends-trans a b c _ _ first next)

pub no_number : {X : Type 0} (of : ℕ → List X) → 0 ≡ length (of_each of 0)
no_number of = sym (ap length (of_none of))

pub more_number : {X : Type 0} (of : ℕ → List X) (n found more : ℕ) → found ≡ length (of_each of n) → more ≡ length (of n)
    → found + more ≡ length (of_each of (n + 1))
more_number of n found more is next = rw (of_one_more of n, length-append (of_each of n) (of n), is, next) refl

-- a list that was written back into its place keeps its length
pub written_back : (list new : List ℕ) (len size : ℕ) → length new ≡ length list → len ≡ length list → length list ≡ size
    → length (take len (new ++ drop (length new) list)) ≡ size
written_back list new len size same is known =
    let whole = length-append new (drop (length new) list) in
    let rest = length-drop (length new) list in
    let front = length-take len (new ++ drop (length new) list) in
    omega (arith, whole, rest, front, same, is, known)
