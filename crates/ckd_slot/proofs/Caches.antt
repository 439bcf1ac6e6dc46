-- The slot at hand and the image's slots.
use Rattle.std.proofs.Common.{◌≡◌, refl, ℕ, ◌+◌, ◌<◌, List, [], Bool, true, false, Option, Some, None, IsSome, length, get_or-set_same}
use Rattle.std.proofs.Common.{slice_set, set-set}
use Rattle.ckd_image.specs.Image.{ImageState}
use Rattle.ckd_slot.specs.Cache.{CacheState, Holds, with_held, slot_held, held_over, after_failed_save}

-- what is seen of a cache with this slot at hand
abbrev pub seen : ImageState → Option ℕ → (changed : Bool) → (slot : List ℕ) → CacheState
seen i held changed s = record { image = i; slots = held_over i.slots held s; held = held; changed = changed }

pub failed_save : (i i' : ImageState) (s left : List ℕ) (changed : Bool) (t : ℕ) → i' ≡ record i {
  saves = i.saves + 1;
  failures =
      i.failures + 1;
  slots = slice_set i.slots t left;
}
    → record { image = i'; slots = i'.slots; held = None; changed = false } ≡ after_failed_save (seen i (Some t) changed s) left
failed_save i i' s left changed t e = rw (e, set-set i.slots t s left) refl

-- the buffer is the slot at hand
pub held_is : {i : ImageState} {held : Option ℕ} {changed : Bool} {s : List ℕ} → Holds i held changed s → IsSome held
    → slot_held (seen i held changed s) ≡ s
held_is {held = None} h some = cc
held_is {i} {held = Some t} {changed} {s} h some = (let lt : t < length i.slots = rw h.image.count h.there in
    get_or-set_same i.slots t s [] lt)

-- a write into the slot at hand is a write into the slots
pub write_is : {i : ImageState} {held : Option ℕ} {changed : Bool} {s new : List ℕ} (f : List ℕ → List ℕ) → Holds i held changed s
    → IsSome held → new ≡ f s
    → seen i held true new ≡ with_held (seen i held changed s) (f (slot_held (seen i held changed s)))
write_is {held = None} f h some e = cc
write_is {i} {held = Some t} {changed} {s} f h some e = rw (held_is h some, e, set-set) refl
