-- What the order of byte strings says of the place where they first differ.
use Rattle.std.proofs.Common.{◌≡◌, ◌↔◌, ℕ, zero, suc, ◌<◌, ◌≤◌, inl, inr, List, [], ◌∷◌, length, take, refl, arith, IsTrue, Bool, true}
use Rattle.std.proofs.Common.{false, nat_eq}
use Rattle.std.specs.Prelude.{⊤, slice_index}
use Rattle.std.specs.Ordering.{is_eq, nat_cmp, ordering_then}
use Rattle.std.specs.Cmp.Lexicographic.{pointwise, slice_cmp}
use Rattle.std.specs.declared.cmp.Ordering.{Ordering}
use Rattle.std.specs.declared.cmp.Ordering.TheVariants.{Less, Equal, Greater}
use Rattle.std.proofs.lemmas.Cmp.{ranked}
use Rattle.std.proofs.lemmas.Bool.Decides.{nat_tests}
use Rattle.ckd_position.specs.Comparisons.{accepts, is_satisfied, Satisfies, IsHigher}
use Rattle.ckd_position.specs.declared.comparisons.Compare.{Compare}
use Rattle.ckd_position.specs.declared.comparisons.Compare.TheVariants as compare

-- bytes that are the same are those whose order is that of equals

same_at : (x y : ℕ) (xs ys : List ℕ) (o : Ordering) → o ≡ nat_cmp x y → pointwise nat_eq xs ys ≡ is_eq (slice_cmp nat_cmp xs ys)
    → pointwise nat_eq (x ∷ xs) (y ∷ ys) ≡ is_eq (slice_cmp nat_cmp (x ∷ xs) (y ∷ ys))
same_at x y xs ys Equal e rest = let same : nat_eq x y ≡ true = grind (arith, nat_tests, ranked x y Equal e) in rw (← e, same) rest
same_at x y xs ys Less e rest = let other : nat_eq x y ≡ false = grind (arith, nat_tests, ranked x y Less e) in rw (← e, other) refl
same_at x y xs ys Greater e rest = let other : nat_eq x y ≡ false = grind (arith, nat_tests, ranked x y Greater e) in rw (← e, other) refl

pub same_bytes : (xs ys : List ℕ) → pointwise nat_eq xs ys ≡ is_eq (slice_cmp nat_cmp xs ys)
same_bytes [] [] = refl
same_bytes [] (y ∷ ys) = refl
same_bytes (x ∷ xs) [] = refl
same_bytes (x ∷ xs) (y ∷ ys) = same_at x y xs ys (nat_cmp x y) refl (same_bytes xs ys)

-- what the order of the first bytes of the one to all of the other means; where it is lower, nothing is asked
abbrev Means : Ordering → List ℕ → List ℕ → Type 0
Means Less xs ys = ⊤
Means Equal xs ys = take (length ys) xs ≡ ys
Means Greater xs ys = IsHigher xs ys

one_more : (x y : ℕ) → x ≡ y → (xs ys : List ℕ) (o : Ordering) → Means o xs ys → Means o (x ∷ xs) (y ∷ ys)
one_more x y e xs ys Less h = tt
one_more x y e xs ys Equal h = cc
one_more x y e xs ys Greater h = (suc h.0, omega arith, cc, h.3)

at_first : (x y : ℕ) (xs ys : List ℕ) (o rest : Ordering) → o ≡ nat_cmp x y → Means rest xs ys
    → Means (ordering_then o rest) (x ∷ xs) (y ∷ ys)
at_first x y xs ys Less rest e h = tt
at_first x y xs ys Equal rest e h = one_more x y (ranked x y Equal e) xs ys rest h
at_first x y xs ys Greater rest e h = (0, omega arith, refl, ranked x y Greater e)

order_means : (xs ys : List ℕ) → length ys ≤ length xs → Means (slice_cmp nat_cmp (take (length ys) xs) ys) xs ys
order_means xs [] le = refl
order_means [] (y ∷ ys) le = absurd (omega arith)
order_means (x ∷ xs) (y ∷ ys) le = at_first x y xs ys (nat_cmp x y) _ refl (order_means xs ys (omega arith))

meant : (c : Compare) (o : Ordering) (xs ys : List ℕ) → Means o xs ys → IsTrue (accepts c o) → Satisfies c xs ys
meant compare.Equal Equal xs ys m h = m
meant compare.High Greater xs ys m h = m
meant compare.EqualOrHigh Equal xs ys m h = inl m
meant compare.EqualOrHigh Greater xs ys m h = inr m
meant _ _ xs ys m h = cc

same_told : (xs : List ℕ) → slice_cmp nat_cmp xs xs ≡ Equal
same_told [] = refl
same_told (x ∷ xs) = let e : nat_cmp x x ≡ Equal = grind (arith, nat_tests) in rw (e, same_told xs) refl

higher_told : (xs ys : List ℕ) (k : ℕ) → k < length ys → take k xs ≡ take k ys → slice_index ys k < slice_index xs k
    → slice_cmp nat_cmp (take (length ys) xs) ys ≡ Greater
higher_told xs [] k h e l = absurd (omega arith)
higher_told [] (y ∷ ys) zero h e l = absurd (omega arith)
higher_told [] (y ∷ ys) (suc k) h e l = cc
higher_told (x ∷ xs) (y ∷ ys) zero h e l = let g : nat_cmp x y ≡ Greater = grind (arith, nat_tests) in rw g refl
higher_told (x ∷ xs) (y ∷ ys) (suc k) h e l =
    let first : x ≡ y = cc in
    let same : nat_cmp x y ≡ Equal = grind (arith, nat_tests) in
    rw same (higher_told xs ys k (omega arith) (cc) l)

told : (c : Compare) (xs ys : List ℕ) → Satisfies c xs ys → IsTrue (is_satisfied c xs ys)
told compare.Equal xs ys h = rw (h, same_told ys) refl
told compare.High xs ys h = rw (higher_told xs ys h.0 h.1 h.2 h.3) refl
told compare.EqualOrHigh xs ys (inl h) = rw (h, same_told ys) refl
told compare.EqualOrHigh xs ys (inr h) = rw (higher_told xs ys h.0 h.1 h.2 h.3) refl

-- a search is satisfied exactly where its comparison holds
pub satisfied_means : (c : Compare) (xs ys : List ℕ) (r : Bool) → length ys ≤ length xs → r ≡ is_satisfied c xs ys
    → IsTrue r ↔ Satisfies c xs ys
satisfied_means c xs ys r l e = rw e (meant c _ xs ys (order_means xs ys l), told c xs ys)
