-- Drives that are copied one after another.
use Rattle.std.proofs.Common.{◌≡◌, ℕ, zero, suc, ◌+◌, ◌<◌, ◌≤◌, refl, sym, ap, ◌∙◌, arith, List, [], ◌∷◌, ◌++◌, length, take, Some}
use Rattle.std.specs.Prelude.{slice_get}
use Rattle.attached_drives.specs.Drives.{AttachedState}
use Rattle.attached_drives.proofs.Places.{inside, none_is_some}

shorter : (i : ℕ) (us : List AttachedState) → length (take i us) ≤ i
shorter zero us = omega arith
shorter (suc i) [] = omega arith
shorter (suc i) (u ∷ us) = let h = shorter i us in omega (arith, h)

-- there is room for one more
pub has_room : (us copies : List AttachedState) (i : ℕ) → copies ≡ take i us → i < length us → length us ≤ 8 → length copies < 8
has_room us copies i e l few = let h = shorter i us in let k = ap length e in omega (arith, h, k)

next : (us : List AttachedState) (i : ℕ) (u : AttachedState) → slice_get us i ≡ Some u → take (suc i) us ≡ take i us ++ u ∷ []
next [] i u h = none_is_some h
next (w ∷ us) zero u h = ap (λ x. x ∷ []) (inside w u h)
next (w ∷ us) (suc i) u h = ap (λ r. w ∷ r) (next us i u h)

-- the next one is copied
pub copied_more : (us copies more : List AttachedState) (i : ℕ) (u w : AttachedState) → copies ≡ take i us → Some u ≡ slice_get us i → w ≡ u
    → more ≡ copies ++ w ∷ [] → more ≡ take (i + 1) us
copied_more us copies more i u w e h same pushed =
    pushed ∙ (ap (λ x. copies ++ x ∷ []) same ∙ (ap (λ l. l ++ u ∷ []) e ∙ (sym (next us i u (sym h)) ∙ ap (λ n. take n us) (one i))))
  where
    one : (i : ℕ) → suc i ≡ i + 1
    one i = omega arith

-- all of them are
pub copied_all : (us copies : List AttachedState) (i : ℕ) → copies ≡ take i us → length us ≤ i → copies ≡ us
copied_all us copies i e l = e ∙ whole us i l
  where
    whole : (us : List AttachedState) (i : ℕ) → length us ≤ i → take i us ≡ us
    whole [] zero l = refl
    whole [] (suc i) l = refl
    whole (u ∷ us) zero l = absurd (omega (arith, l))
    whole (u ∷ us) (suc i) l = ap (λ r. u ∷ r) (whole us i (omega (arith, l)))
