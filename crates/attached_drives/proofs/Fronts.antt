-- Drives that are put to rest one after another.
use Rattle.std.proofs.Common.{◌≡◌, ℕ, zero, suc, ◌+◌, ◌<◌, refl, sym, ap, ◌∙◌, arith, List, [], ◌∷◌, ◌++◌, map, length, take, drop, Some}
use Rattle.std.specs.Prelude.{slice_get, slice_set}
use Rattle.s360_program.specs.Advances.{Rests}
use Rattle.attached_drives.specs.Drives.{AttachedState, AllRest}
use Rattle.attached_drives.specs.DriveCalls.{DriveIs, RestsAt, at_rest_attached}
use Rattle.attached_drives.proofs.Places.{inside, none_is_some, rests_at}

abbrev pub front : ℕ → List AttachedState → List AttachedState
front i us = map at_rest_attached (take i us) ++ drop i us

pub front_length : (i : ℕ) (us : List AttachedState) → length (front i us) ≡ length us
front_length zero us = refl
front_length (suc i) [] = refl
front_length (suc i) (u ∷ us) = ap suc (front_length i us)

pub front_all : (us : List AttachedState) → front (length us) us ≡ map at_rest_attached us
front_all [] = refl
front_all (u ∷ us) = ap (λ r. at_rest_attached u ∷ r) (front_all us)

get_front : (i : ℕ) (us : List AttachedState) → slice_get (front i us) i ≡ slice_get us i
get_front zero us = refl
get_front (suc i) [] = refl
get_front (suc i) (u ∷ us) = get_front i us

set_front : (i : ℕ) (us : List AttachedState) (u : AttachedState) → slice_get us i ≡ Some u → slice_set (front i us) i (at_rest_attached u)
    ≡ front (suc i) us
set_front zero [] u h = none_is_some h
set_front zero (w ∷ us) u h = ap (λ x. at_rest_attached x ∷ us) (sym (inside w u h))
set_front (suc i) [] u h = none_is_some h
set_front (suc i) (w ∷ us) u h = ap (λ r. at_rest_attached w ∷ r) (set_front i us u h)

there : (us : List AttachedState) (i : ℕ) → i < length us → (u : AttachedState) × (slice_get us i ≡ Some u)
there [] i l = absurd (omega (arith, l))
there (u ∷ us) zero l = (u, refl)
there (u ∷ us) (suc i) l = there us i (omega (arith, l))

-- the next one rests
pub rests_next : (us now : List AttachedState) (i : ℕ) → now ≡ front i us → i < length us → AllRest us → DriveIs i Rests now
rests_next us now i e l r = let t = there us i l in record {
  attached = t.0;
  is_there = ap (λ us. slice_get us i) e ∙ (get_front i us ∙ t.1);
  holds = rests_at us i t.0 r t.1;
}

pub one_more : (us now next : List AttachedState) (i : ℕ) → now ≡ front i us → RestsAt i now next → next ≡ front (i + 1) us
one_more us now next i e r =
    r.becomes ∙ (ap (λ us. slice_set us i (at_rest_attached r.attached)) e
    ∙ (set_front i us r.attached (sym (get_front i us) ∙ (ap (λ us. slice_get us i) (sym e) ∙ r.was)) ∙ ap (λ n. front n us) (more i)))
  where
    more : (i : ℕ) → suc i ≡ i + 1
    more i = omega arith
