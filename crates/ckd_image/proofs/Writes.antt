-- What writes leave of a content.
use Rattle.std.proofs.Common.{◌≡◌, ℕ, ◌+◌, ◌-◌, ◌≤◌, slice_range, List, ◌++◌, length, take, drop, refl, sym, ap, ◌∙◌, arith, length-append}
use Rattle.std.proofs.Common.{length-drop, length-take}
use Rattle.std.proofs.lemmas.List.{append_assoc, drop-append-le, drop-drop, drop-take}
use Rattle.std.proofs.lemmas.Slice.{take-put_mid_below, drop-put_mid}
use Rattle.std.proofs.lemmas.List.Edits.{split_between, length-between}
use Rattle.ckd_image.specs.Store.{overwritten, Torn}

-- so many bytes from a place on
pub range_is : (xs : List ℕ) (at n : ℕ) → slice_range xs at (at + n) ≡ take n (drop at xs)
range_is xs at n = let count : at + n - at ≡ n = omega arith in rw count refl

pub length-overwritten : (old bytes : List ℕ) (at : ℕ) → at + length bytes ≤ length old → length (overwritten old at bytes) ≡ length old
length-overwritten old bytes at h =
    simp (length-append, length-drop, length-take) (omega arith)

-- before the bytes nothing changes
pub take-overwritten_before : (old bytes : List ℕ) (at n : ℕ) → n ≤ at → at ≤ length old → take n (overwritten old at bytes) ≡ take n old
take-overwritten_before old bytes at n before h = rw (append_assoc, ← (drop-drop (length bytes) at old))
    (take-put_mid_below at (length bytes) old bytes n before h)

-- behind the bytes, from any place on
pub drop-overwritten : (old bytes : List ℕ) (at n : ℕ) → at ≤ length old → length bytes ≤ n → drop (at + n) (overwritten old at bytes)
    ≡ drop (at + n) old
drop-overwritten old bytes at n h k = rw (append_assoc, ← (drop-drop (length bytes) at old)) (drop-put_mid at (length bytes) old bytes
    (at + n) (omega arith) h refl)

-- a write of no more bytes, within the content, is a torn one
pub torn_within : (old bytes : List ℕ) (at count : ℕ) → at + length bytes ≤ length old → length bytes ≤ count
    → Torn old (overwritten old at bytes) at count
torn_within old bytes at count within fewer = record {
  before = take-overwritten_before old bytes at at (omega arith) (omega arith);
  behind = drop-overwritten old bytes at count (omega arith) fewer;
  same_length = length-overwritten old bytes at within;
}

-- what is seen from a place before the bytes
pub drop-overwritten_before : (old bytes : List ℕ) (n at : ℕ) → n + at ≤ length old → drop n (overwritten old (n + at) bytes)
    ≡ overwritten (drop n old) at bytes
drop-overwritten_before old bytes n at h =
    let front : n ≤ length (take (n + at) old) = simp length-take (omega arith) in
    let more : n ≤ length (take (n + at) old ++ bytes) = simp length-append (omega arith) in
    let behind : drop (n + at + length bytes) old ≡ drop (at + length bytes) (drop n old) =
    ap (λ (k : ℕ). drop k old) (omega arith) ∙ sym (drop-drop (at + length bytes) n old) in
    drop-append-le n (take (n + at) old ++ bytes) (drop (n + at + length bytes) old) more
    ∙ ap (λ (s : List ℕ). s ++ drop (n + at + length bytes) old) (drop-append-le n (take (n + at) old) bytes front
    ∙ ap (λ (s : List ℕ). s ++ bytes) (drop-take n at old))
    ∙ ap (λ (s : List ℕ). take at (drop n old) ++ bytes ++ s) behind

-- a torn write within the content has written some bytes of its range
pub torn_is : (old new : List ℕ) (at count : ℕ) → Torn old new at count → at + count ≤ length old
    → new ≡ overwritten old at (slice_range new at (at + count))
torn_is old new at count torn within =
    let part = slice_range new at (at + count) in
    let size : length part ≡ count = length-between new at (at + count) (rw torn.same_length within) ∙ omega arith in
    split_between new at (at + count) (omega arith)
    ∙ ap (λ (s : List ℕ). s ++ (part ++ drop (at + count) new)) torn.before
    ∙ ap (λ (s : List ℕ). take at old ++ (part ++ s)) torn.behind
    ∙ ap (λ (n : ℕ). take at old ++ (part ++ drop (at + n) old)) (sym size)
    ∙ sym (append_assoc (take at old) part (drop (at + length part) old))
