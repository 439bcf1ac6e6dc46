-- Places that all hold something.
use Rattle.std.proofs.Common.{◌≡◌, cond, ℕ, zero, suc, ◌+◌, ◌<◌, ◌≤◌, refl, sym, ap, ◌∙◌, subst, arith, List, [], ◌∷◌, ◌++◌, map, length}
use Rattle.std.proofs.Common.{Option, Some, None}
use Rattle.std.proofs.lemmas.List.{length-map, length-set, map-set, length-append}
use Rattle.std.specs.Prelude.{slice_get, slice_set, slice_index_or, position, not, nat_lt}
use Rattle.std.specs.List.{remove, refill, position_or_len}
use Rattle.arrayvec.proofs.ArrayVecLemmas.{items-with_items}
use Rattle.attached_drives.specs.Drives.{AttachedState, is_at}
use Rattle.ckd_drive.specs.Work.{DriveState}
use Rattle.attached_drives.specs.DriveCalls.{DriveChanges, OnlyDrive, RestsAt, TakesFirst, at_rest_attached}
use Rattle.ckd_image.specs.Image.{ImageState}
use Rattle.attached_drives.proofs.Places.{inside, none_is_some}
use Rattle.attached_drives.specs.Slots.{present, AllHeld, is_held}

module _ {A : Type 0} where
  pub present_all : (us : List A) → present (map Some us) ≡ us
  present_all [] = refl
  present_all (u ∷ us) = ap (λ r. u ∷ r) (present_all us)

  -- slots that are those of these
  pub all_held : (most : ℕ) (slots : List (Option A)) (us : List A) → slots ≡ map Some us → length us ≤ most → AllHeld most slots
  all_held most slots us e few =
      let same : present slots ≡ us = ap present e ∙ present_all us in
      record { held = e ∙ ap (map Some) (sym same); few = subst (λ us. length us ≤ most) (sym same) few }

  slots_of : {most : ℕ} {slots : List (Option A)} {us : List A} → AllHeld most slots → present slots ≡ us → slots ≡ map Some us
  slots_of h v = h.held ∙ ap (map Some) v

  -- what is at a place
  pub held_at : {most place : ℕ} {slots : List (Option A)} {us : List A} {o : Option A} (d : Option A) → AllHeld most slots
      → present slots ≡ us → place < length us → o ≡ slice_index_or slots place d → o ≡ slice_get us place
  held_at {most} {place} {slots} {us} {o} d h v l is = go us place l (is ∙ ap (λ slots. slice_index_or slots place d) (slots_of h v))
    where
      go : (us : List A) (place : ℕ) → place < length us → o ≡ slice_index_or (map Some us) place d → o ≡ slice_get us place
      go [] place l is = absurd (omega (arith, l))
      go (u ∷ us) zero l is = is
      go (u ∷ us) (suc place) l is = go us place (omega (arith, l)) is

  pub lent_at : {most place : ℕ} {slots lent : List (Option A)} {us : List A} (d o : Option A) → AllHeld most slots → present slots ≡ us
      → place < length us → lent ≡ slots → slice_index_or lent place d ≡ o → o ≡ slice_get us place
  lent_at {most} {place} {slots} {lent} {us} d o h v l same is = held_at d h v l (sym is ∙ ap (λ slots. slice_index_or slots place d) same)

  pub never_none : (us : List A) (place : ℕ) → place < length us → None ≡ slice_get us place → ⊥
  never_none [] place l e = omega (arith, l)
  never_none (u ∷ us) zero l e = cc
  never_none (u ∷ us) (suc place) l e = never_none us place (omega (arith, l)) e

  -- One more, and one fewer.

  pub are_these : (most : ℕ) (slots : List (Option A)) (us : List A) → slots ≡ map Some us → length us ≤ most → AllHeld most slots
      × (present slots ≡ us)
  are_these most slots us e few = (all_held most slots us e few, ap present e ∙ present_all us)

  map_push : (us : List A) (u : A) → map Some (us ++ u ∷ []) ≡ map Some us ++ Some u ∷ []
  map_push [] u = refl
  map_push (w ∷ us) u = ap (λ r. Some w ∷ r) (map_push us u)

  pub pushed : {most : ℕ} {slots : List (Option A)} {us : List A} (u : A) (new : List (Option A)) → AllHeld most slots → present slots ≡ us
      → length us < most → new ≡ slots ++ Some u ∷ [] → AllHeld most new × (present new ≡ us ++ u ∷ [])
  pushed {most} {slots} {us} u new h v l e =
      are_these most new (us ++ u ∷ []) (e ∙ ap (λ slots. slots ++ Some u ∷ []) (slots_of h v) ∙ sym (map_push us u))
      (simp length-append (omega (arith, l)))

  map_remove : (us : List A) (place : ℕ) → remove (map Some us) place ≡ map Some (remove us place)
  map_remove [] zero = refl
  map_remove [] (suc place) = refl
  map_remove (u ∷ us) zero = refl
  map_remove (u ∷ us) (suc place) = ap (λ r. Some u ∷ r) (map_remove us place)

  shorter : (us : List A) (place : ℕ) → length (remove us place) ≤ length us
  shorter [] zero = omega arith
  shorter [] (suc place) = omega arith
  shorter (u ∷ us) zero = omega arith
  shorter (u ∷ us) (suc place) = omega (arith, shorter us place)

  pub removed : {most : ℕ} {slots : List (Option A)} {us : List A} (place : ℕ) (new : List (Option A)) → AllHeld most slots
      → present slots ≡ us → new ≡ remove slots place → AllHeld most new × (present new ≡ remove us place)
  removed {most} {slots} {us} place new h v e =
      let few = subst (λ us. length us ≤ most) v h.few in
      are_these most new (remove us place) (e ∙ ap (λ slots. remove slots place) (slots_of h v) ∙ map_remove us place)
      (omega (arith, few, shorter us place))

  -- One is another now: it was lent with the others, and they were written back.

  pub record Puts (most place : ℕ) (us : List A) (u w : A) (new : List (Option A)) : Type 0 where
    pub was : slice_get us place ≡ Some u
    pub held : AllHeld most new
    pub becomes : present new ≡ slice_set us place w

  changed : {most : ℕ} {slots : List (Option A)} {us : List A} (place : ℕ) (w : A) (new : List (Option A)) → AllHeld most slots
      → present slots ≡ us → new ≡ slice_set slots place (Some w) → AllHeld most new × (present new ≡ slice_set us place w)
  changed {most} {slots} {us} place w new h v e =
      are_these most new (slice_set us place w) (e ∙ ap (λ slots. slice_set slots place (Some w)) (slots_of h v)
      ∙ sym (map-set Some us place w)) (subst (λ n. n ≤ most) (sym (length-set us place w)) (subst (λ us. length us ≤ most) v h.few))

  pub puts : {most place : ℕ} {slots lent : List (Option A)} {us : List A} (d : Option A) (u w : A) → AllHeld most slots
      → present slots ≡ us → place < length us → lent ≡ slots → slice_index_or lent place d ≡ Some u
      → Puts most place us u w (refill (length slots) slots (slice_set lent place (Some w)))
  puts {most} {place} {slots} {lent} {us} d u w h v l same here =
      let back = items-with_items (record { items = slots }) (slice_set lent place (Some w)) (length-set lent place (Some w)
      ∙ ap length same) in
      let c = changed place w _ h v (back ∙ ap (λ slots. slice_set slots place (Some w)) same) in
      record { was = sym (lent_at d (Some u) h v l same here); held = c.0; becomes = c.1 }

-- What is so of one drive is so of the list.

pub drive_changes : {most place : ℕ} {us : List AttachedState} {u w : AttachedState} {new : List (Option AttachedState)} {How : DriveState
    → DriveState → Type 0} → Puts most place us u w new → OnlyDrive How u w → DriveChanges place How us (present new)
drive_changes {most} {place} {us} {u} {w} p o = record {
  attached = u;
  was = p.was;
  drive = w.drive;
  becomes = p.becomes ∙ ap (slice_set us place) (ap (λ n. record w { device = n }) o.same_device
      ∙ ap (λ a. record { device = u.device; arm = a; drive = w.drive }) o.same_arm);
  how = o.how;
}

pub rests_at : {most place : ℕ} {us : List AttachedState} {u w : AttachedState} {new : List (Option AttachedState)}
    → Puts most place us u w new → w ≡ at_rest_attached u → RestsAt place us (present new)
rests_at {most} {place} {us} p e = record { attached = _; was = p.was; becomes = p.becomes ∙ ap (slice_set us place) e }

pub first_taken : (us : List AttachedState) (u : AttachedState) (d : DriveState) (device : ℕ) (image : ImageState) → Some u ≡ slice_get us 0
    → device ≡ u.device → d ≡ u.drive → image ≡ d.image → image.slots ≡ d.state.volume.slots
    → TakesFirst us (remove us 0) (Some (device, image))
first_taken [] u d device image h a b i v = none_is_some (sym h)
first_taken (w ∷ us) u d device image h a b i v =
    let e : d ≡ w.drive = b ∙ ap (λ (u : AttachedState). u.drive) (inside u w h) in (
      refl,
      ap (λ n. Some (n, image)) (a ∙ ap (λ (u : AttachedState). u.device) (inside u w h)) ∙ ap (λ i. Some (w.device, i)) (i
          ∙ ap (λ (d : DriveState). d.image) e),
      sym (ap (λ (d : DriveState). d.image.slots) e) ∙ ap (λ (i : ImageState). i.slots) (sym i) ∙ v
          ∙ ap (λ (d : DriveState). d.state.volume.slots) e,
    )

-- the place of a drive among the places
place_long : (device : ℕ) (us : List AttachedState) → position_or_len (is_held device) (map Some us) ≡ position_or_len (is_at device) us
place_long device [] = refl
place_long device (u ∷ us) = ap (λ n. cond (not (is_at device u)) (1 + n) zero) (place_long device us)

pub place_held : {most : ℕ} {slots : List (Option AttachedState)} {us : List AttachedState} (device : ℕ) → AllHeld most slots
    → present slots ≡ us → position (is_held device) slots ≡ position (is_at device) us
place_held {most} {slots} {us} device h v =
    ap (position (is_held device)) (slots_of h v)
    ∙ ap (λ n. cond (nat_lt n (length (map Some us))) (Some n) None) (place_long device us)
    ∙ ap (λ l. cond (nat_lt (position_or_len (is_at device) us) l) (Some (position_or_len (is_at device) us)) None) (length-map us Some)
