-- Bytes of several of one length, one behind another, and each of them by its place.
use Rattle.std.proofs.Common.{◌≡◌, ◌∙◌, ℕ, zero, suc, ◌+◌, ◌-◌, ◌*◌, ap, arith}
use Rattle.std.proofs.Common.{refl, sym, List, [], ◌∷◌, ◌++◌, length, take, drop, Some, None}
use Rattle.std.specs.Prelude.{slice_get, slice_range, unwrap_or}
use Rattle.std.proofs.lemmas.List.{length-append, take_all, take-append-le}
use Rattle.saved_state.specs.Bytes.{joined}

pub inside : {A : Type 0} (a b : A) → Some a ≡ Some b → a ≡ b
inside a b h = ap (λ o. unwrap_or o a) h

none_is_some : {A P : Type 0} {a : A} → None ≡ Some a → P
none_is_some h = absurd (cc)

drop_past : (a r : List ℕ) (i : ℕ) → drop (length a + i) (a ++ r) ≡ drop i r
drop_past [] r i = ap (λ n. drop n r) (here i)
  where
    here : (i : ℕ) → 0 + i ≡ i
    here i = omega arith
drop_past (x ∷ a) r i = ap (λ n. drop n (x ∷ (a ++ r))) (next (length a) i) ∙ drop_past a r i
  where
    next : (n i : ℕ) → suc n + i ≡ suc (n + i)
    next n i = omega arith

-- a part behind others
pub behind : (a r : List ℕ) (i j : ℕ) → slice_range (a ++ r) (length a + i) (length a + j) ≡ slice_range r i j
behind a r i j = ap (take ((length a + j) - (length a + i))) (drop_past a r i) ∙ ap (λ n. take n (drop i r)) (same (length a) i j)
  where
    same : (n i j : ℕ) → (n + j) - (n + i) ≡ j - i
    same n i j = omega arith

-- the first of them
pub first : (a r : List ℕ) (n : ℕ) → length a ≡ n → take n (a ++ r) ≡ a
first a r n e = take-append-le n a r (omega (arith, e)) ∙ take_all n a (omega (arith, e))

-- each of them has this length
abbrev pub AreLong : {A : Type 0} → (A → List ℕ) → (w : ℕ) → List A → Type 0
AreLong f w [] = Unit {0}
AreLong f w (x ∷ xs) = (length (f x) ≡ w) × AreLong f w xs

pub joined_length : {A : Type 0} (f : A → List ℕ) (w : ℕ) (xs : List A) → AreLong f w xs → length (joined f xs) ≡ w * length xs
joined_length f w [] l = none w
  where
    none : (w : ℕ) → 0 ≡ w * 0
    none w = omega arith
joined_length f w (x ∷ xs) l =
    length-append (f x) (joined f xs) ∙ (ap (λ n. n + length (joined f xs)) l.0 ∙ (ap (λ n. w + n) (joined_length f w xs l.1)
    ∙ more w (length xs)))
  where
    more : (w n : ℕ) → w + w * n ≡ w * suc n
    more w n = grind arith

-- the one at a place
pub part : {A : Type 0} (f : A → List ℕ) (w : ℕ) (xs : List A) (k i j : ℕ) (x : A) → AreLong f w xs → slice_get xs k ≡ Some x
    → i ≡ w * k → j ≡ i + w → slice_range (joined f xs) i j ≡ f x
part f w [] k i j x l h e d = none_is_some h
part f w (y ∷ xs) zero i j x l h e d =
    ap (λ n. slice_range (f y ++ joined f xs) n j) (e ∙ nothing w)
    ∙ (ap (λ n. slice_range (f y ++ joined f xs) 0 n) (d ∙ (ap (λ n. n + w) (e ∙ nothing w) ∙ only w))
    ∙ (ap (λ n. take n (f y ++ joined f xs)) (whole w) ∙ (first (f y) (joined f xs) w l.0 ∙ ap f (inside y x h))))
  where
    nothing : (w : ℕ) → w * 0 ≡ 0
    nothing w = omega arith

    only : (w : ℕ) → 0 + w ≡ w
    only w = omega arith

    whole : (w : ℕ) → w - 0 ≡ w
    whole w = omega arith
part f w (y ∷ xs) (suc k) i j x l h e d =
    ap (λ n. slice_range (f y ++ joined f xs) n j) (e ∙ (next w k ∙ ap (λ n. n + w * k) (sym l.0)))
    ∙ (ap (λ n. slice_range (f y ++ joined f xs) (length (f y) + w * k) n) (d ∙ (ap (λ n. n + w) (e ∙ next w k)
    ∙ (both w (w * k) ∙ ap (λ n. n + (w * k + w)) (sym l.0))))
    ∙ (behind (f y) (joined f xs) (w * k) (w * k + w) ∙ part f w xs k (w * k) (w * k + w) x l.1 h refl refl))
  where
    next : (w k : ℕ) → w * suc k ≡ w + w * k
    next w k = grind arith

    both : (w n : ℕ) → (w + n) + w ≡ w + (n + w)
    both w n = omega arith
