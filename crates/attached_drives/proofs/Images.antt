-- Images that are taken out of a list of drives, one after another.
use Rattle.std.proofs.Common.{drop, ◌≡◌, ℕ, suc, ◌-◌, ◌≤◌, refl, sym, ap, ◌∙◌, subst, arith, List, [], ◌∷◌, ◌++◌, map, length, Option, Some}
use Rattle.std.proofs.Common.{None}
use Rattle.std.specs.Prelude.{replicate}
use Rattle.ckd_image.specs.Image.{ImageState}
use Rattle.attached_drives.specs.Drives.{AttachedState, AllRest}
use Rattle.attached_drives.specs.DriveCalls.{TakesFirst}

-- the drives behind the first rest
pub rest_behind : (us : List AttachedState) → AllRest us → AllRest (drop 1 us)
rest_behind [] r = tt
rest_behind (u ∷ us) r = r.1

-- these are taken out, one after another
abbrev pub AllTaken : List (Option (ℕ × ImageState)) → List AttachedState → Type 0
AllTaken [] us = Unit {0}
AllTaken (t ∷ ts) us = (next : List AttachedState) × TakesFirst us next t × AllTaken ts next

abbrev one : AttachedState → Option (ℕ × ImageState)
one u = Some (u.device, u.drive.image)

none_taken : (ts : List (Option (ℕ × ImageState))) (us : List AttachedState) → us ≡ [] → AllTaken ts us → ts ≡ replicate (length ts) None
none_taken [] us e h = refl
none_taken (t ∷ ts) us e h = let k = subst (λ us. TakesFirst us h.0 t) e h.1 in ap (λ x. x ∷ ts) k.1
    ∙ ap (λ r. None ∷ r) (none_taken ts h.0 k.0 h.2)

less : (a b : ℕ) → suc a - suc b ≡ a - b
less a b = omega arith

pub all_taken : (ts : List (Option (ℕ × ImageState))) (us : List AttachedState) → AllTaken ts us → length us ≤ length ts
    → ts ≡ map one us ++ replicate (length ts - length us) None
all_taken ts [] h l = none_taken ts [] refl h ∙ ap (λ n. replicate n None) (whole (length ts))
  where
    whole : (n : ℕ) → n ≡ n - 0
    whole n = omega arith
all_taken [] (u ∷ us) h l = absurd (omega (arith, l))
all_taken (t ∷ ts) (u ∷ us) h l =
    ap (λ x. x ∷ ts) h.1.1 ∙ ap (λ r. one u ∷ r) (all_taken ts us (subst (AllTaken ts) h.1.0 h.2) (omega (arith, l))
    ∙ ap (λ n. map one us ++ replicate n None) (sym (less (length ts) (length us))))

pub volumes_taken : (ts : List (Option (ℕ × ImageState))) (us : List AttachedState) → AllTaken ts us → length us ≤ length ts
    → map (λ u. u.drive.image.slots) us ≡ map (λ u. u.drive.state.volume.slots) us
volumes_taken ts [] h l = refl
volumes_taken [] (u ∷ us) h l = absurd (omega (arith, l))
volumes_taken (t ∷ ts) (u ∷ us) h l =
    ap (λ x. x ∷ map (λ u. u.drive.image.slots) us) h.1.2
    ∙ ap (λ r. u.drive.state.volume.slots ∷ r) (volumes_taken ts us (subst (AllTaken ts) h.1.0 h.2) (omega (arith, l)))
