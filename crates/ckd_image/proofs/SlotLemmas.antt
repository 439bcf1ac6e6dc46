-- Slots of one size in a row of bytes.
use Rattle.std.proofs.Common.{◌≡◌, ℕ, zero, suc, ◌+◌, ◌*◌, ◌<◌, ◌≤◌, List, [], ◌++◌, length, take, drop, get_or, set, All, refl, sym, ap}
use Rattle.std.proofs.Common.{◌∙◌, arith, length-drop}
use Rattle.std.proofs.lemmas.List.{length-take-le, drop-drop, take_at, drop_at, take-append-drop, nil_from_length, get_or_default}
use Rattle.std.proofs.Math.Nat.{zero-add, zero-mul, suc-mul, mul-le-mul_right}
use Rattle.std.specs.List.{concat}
use Rattle.ckd_image.specs.Store.{overwritten}
use Rattle.ckd_image.specs.Slots.{slots_in}
use Rattle.ckd_image.proofs.Writes.{take-overwritten_before, drop-overwritten_before}

pub length-slots_in : (size n : ℕ) (bytes : List ℕ) → length (slots_in size n bytes) ≡ n
unfolding slots_in
length-slots_in size zero bytes = refl
length-slots_in size (suc n) bytes = let e = length-slots_in size n (drop size bytes) in omega arith

pub get_or-slots_in : (size n k : ℕ) (bytes : List ℕ) → k < n → get_or (slots_in size n bytes) k [] ≡ take size (drop (k * size) bytes)
unfolding slots_in
get_or-slots_in size zero k bytes h = absurd (omega arith)
get_or-slots_in size (suc n) zero bytes h = rw (zero-mul size) refl
get_or-slots_in size (suc n) (suc k) bytes h =
    get_or-slots_in size n k (drop size bytes) (omega arith)
    ∙ ap (take size) (drop-drop (k * size) size bytes ∙ ap (λ (m : ℕ). drop m bytes) (omega (arith, suc-mul k size)))

-- slot k lies within the bytes of n slots
pub slot_within : (size n k : ℕ) → k < n → k * size + size ≤ n * size
slot_within size n k h = rw (sym (suc-mul k size)) (mul-le-mul_right size h)

pub length-slot : (size n k : ℕ) (bytes : List ℕ) → k < n → n * size ≤ length bytes → length (get_or (slots_in size n bytes) k []) ≡ size
length-slot size n k bytes h room =
    rw (get_or-slots_in size n k bytes h) (length-take-le size (drop (k * size) bytes)
    (simp length-drop (omega (arith, slot_within size n k h))))

pub sizes-slots_in : (size n : ℕ) (bytes : List ℕ) → n * size ≤ length bytes → All (λ slot. length slot ≡ size) (slots_in size n bytes)
sizes-slots_in size n bytes room k d h =
    let below : k < n = omega (arith, length-slots_in size n bytes) in
    rw (get_or_default (slots_in size n bytes) k d [] h) (length-slot size n k bytes below room)

pub concat-slots_in : (size n : ℕ) (bytes : List ℕ) → length bytes ≡ n * size → concat (slots_in size n bytes) ≡ bytes
unfolding slots_in
concat-slots_in size zero bytes h = sym (nil_from_length bytes (h ∙ zero-mul size))
concat-slots_in size (suc n) bytes h =
    ap (λ (s : List ℕ). take size bytes ++ s) (concat-slots_in size n (drop size bytes) (simp length-drop (omega (arith, suc-mul n size))))
    ∙ take-append-drop size bytes

pub slots_in-overwritten : (size n k : ℕ) (bytes slot : List ℕ) → k < n → length slot ≡ size → n * size ≤ length bytes
    → slots_in size n (overwritten bytes (k * size) slot) ≡ set (slots_in size n bytes) k slot
unfolding slots_in
slots_in-overwritten size zero k bytes slot h l room = absurd (omega arith)
slots_in-overwritten size (suc n) zero bytes slot h l room =
    let first = take_at slot (drop (length slot) bytes) size l in
    let others = ap (slots_in size n) (drop_at slot (drop (length slot) bytes) size l ∙ ap (λ (m : ℕ). drop m bytes) l) in
    rw (zero-mul size, zero-add (length slot), first, others) refl
slots_in-overwritten size (suc n) (suc k) bytes slot h l room =
    let at : suc k * size ≡ size + k * size = omega (arith, suc-mul k size) in
    let whole : size + n * size ≤ length bytes = omega (arith, suc-mul n size) in
    let below : k < n = omega arith in
    let in_front : size + k * size ≤ length bytes = omega (arith, slot_within size n k below) in
    rw (
      at,
      take-overwritten_before bytes slot (size + k * size) size (omega arith) in_front,
      drop-overwritten_before bytes slot size (k * size) in_front,
      slots_in-overwritten size n k (drop size bytes) slot below l (simp length-drop (omega arith)),
    ) refl
