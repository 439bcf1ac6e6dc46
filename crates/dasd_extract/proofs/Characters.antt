-- Each character of ASCII has a byte in the code page.
use Rattle.std.proofs.Common.{ℕ, zero, suc, ◌<◌, ◌≤◌, ◌≡◌, ◌≢◌, ◌∙◌, Bool, true, false, ◌&&◌, ◌==◌, nat_lt, List, [], ◌∷◌, get_or, min}
use Rattle.std.proofs.Common.{refl, sym, ap, arith}
use Rattle.std.proofs.lemmas.Bool.{and_parts, eqb-true, ltb-true, ltb-false}
use Rattle.volume_labels.specs.Ebcdic.{code_page_037, character_of}

all_below : (ℕ → Bool) → ℕ → Bool
all_below test zero = true
all_below test (suc n) = test n && all_below test n

below : (test : ℕ → Bool) (n k : ℕ) → all_below test n ≡ true → k < n → test k ≡ true
unfolding all_below
below test zero k all inside = absurd (none k inside)
  where
    none : (k : ℕ) → k < 0 → ⊥
    none k h = omega (arith, h)
below test (suc n) k all inside = at_last (nat_lt k n) refl (below test n k (and_parts (test n) (all_below test n) all).1)
  where
    last : (k n : ℕ) → k < suc n → n ≤ k → k ≡ n
    last k n inside from = omega (arith, inside, from)

    at_last : (b : Bool) → b ≡ nat_lt k n → (k < n → test k ≡ true) → test k ≡ true
    at_last true is earlier = earlier (ltb-true k n (sym is))
    at_last false is earlier = ap test (last k n inside (ltb-false k n (sym is))) ∙ (and_parts (test n) (all_below test n) all).0

-- the byte of each character
bytes : List ℕ
bytes =
    0x00 ∷ 0x01 ∷ 0x02 ∷ 0x03 ∷ 0x37 ∷ 0x2D ∷ 0x2E ∷ 0x2F ∷ 0x16 ∷ 0x05 ∷ 0x25 ∷ 0x0B ∷ 0x0C ∷ 0x0D ∷ 0x0E ∷ 0x0F ∷
    0x10 ∷ 0x11 ∷ 0x12 ∷ 0x13 ∷ 0x3C ∷ 0x3D ∷ 0x32 ∷ 0x26 ∷ 0x18 ∷ 0x19 ∷ 0x3F ∷ 0x27 ∷ 0x1C ∷ 0x1D ∷ 0x1E ∷ 0x1F ∷
    0x40 ∷ 0x5A ∷ 0x7F ∷ 0x7B ∷ 0x5B ∷ 0x6C ∷ 0x50 ∷ 0x7D ∷ 0x4D ∷ 0x5D ∷ 0x5C ∷ 0x4E ∷ 0x6B ∷ 0x60 ∷ 0x4B ∷ 0x61 ∷
    0xF0 ∷ 0xF1 ∷ 0xF2 ∷ 0xF3 ∷ 0xF4 ∷ 0xF5 ∷ 0xF6 ∷ 0xF7 ∷ 0xF8 ∷ 0xF9 ∷ 0x7A ∷ 0x5E ∷ 0x4C ∷ 0x7E ∷ 0x6E ∷ 0x6F ∷
    0x7C ∷ 0xC1 ∷ 0xC2 ∷ 0xC3 ∷ 0xC4 ∷ 0xC5 ∷ 0xC6 ∷ 0xC7 ∷ 0xC8 ∷ 0xC9 ∷ 0xD1 ∷ 0xD2 ∷ 0xD3 ∷ 0xD4 ∷ 0xD5 ∷ 0xD6 ∷
    0xD7 ∷ 0xD8 ∷ 0xD9 ∷ 0xE2 ∷ 0xE3 ∷ 0xE4 ∷ 0xE5 ∷ 0xE6 ∷ 0xE7 ∷ 0xE8 ∷ 0xE9 ∷ 0xBA ∷ 0xE0 ∷ 0xBB ∷ 0xB0 ∷ 0x6D ∷
    0x79 ∷ 0x81 ∷ 0x82 ∷ 0x83 ∷ 0x84 ∷ 0x85 ∷ 0x86 ∷ 0x87 ∷ 0x88 ∷ 0x89 ∷ 0x91 ∷ 0x92 ∷ 0x93 ∷ 0x94 ∷ 0x95 ∷ 0x96 ∷
    0x97 ∷ 0x98 ∷ 0x99 ∷ 0xA2 ∷ 0xA3 ∷ 0xA4 ∷ 0xA5 ∷ 0xA6 ∷ 0xA7 ∷ 0xA8 ∷ 0xA9 ∷ 0xC0 ∷ 0x4F ∷ 0xD0 ∷ 0xA1 ∷ 0x07 ∷ []

byte_for : ℕ → ℕ
byte_for c = min 255 (get_or bytes c 0)

each_has_one : all_below (λ c. character_of (byte_for c) == c) 128 ≡ true
unfolding code_page_037 all_below byte_for bytes
each_has_one = refl

is_known : (c : ℕ) → c < 128 → character_of (byte_for c) ≡ c
is_known c inside = eqb-true (character_of (byte_for c)) c (below (λ c. character_of (byte_for c) == c) 128 c each_has_one inside)

-- so a search over all bytes finds it
pub is_found : (c i : ℕ) → c < 128 → 256 ≤ i → ((k : ℕ) → k < i → character_of k ≢ c) → ⊥
unfolding byte_for bytes
is_found c i inside whole none = none (byte_for c) (few (get_or bytes c 0) i whole) (is_known c inside)
  where
    few : (b i : ℕ) → 256 ≤ i → min 255 b < i
    few b i whole = omega (arith, whole)
