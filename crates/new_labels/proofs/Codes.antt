-- Characters of names, and their bytes in EBCDIC.
use Rattle.std.proofs.Common.{◌≡◌, ◌∙◌, ap, sym, refl, ℕ, ◌+◌, ◌<◌, ◌≤◌, ◌≢◌, ◌==◌, true, false, List, [], ◌∷◌, map, take, slice_index_or}
use Rattle.std.proofs.Common.{arith}
use Rattle.std.proofs.lemmas.List.{get_or-map, take_all}
use Rattle.std.proofs.lemmas.List.Folds.{list_any_at, list_any_more}
use Rattle.std.specs.List.{list_any}
use Rattle.volume_labels.specs.Ebcdic.{character_of, code_page_037}
use Rattle.new_labels.specs.Texts.{name_characters, is_name_character}

-- the bytes of the characters, in their order
abbrev pub name_codes : List ℕ
name_codes =
    0xC1 ∷ 0xC2 ∷ 0xC3 ∷ 0xC4 ∷ 0xC5 ∷ 0xC6 ∷ 0xC7 ∷ 0xC8 ∷ 0xC9 ∷ 0xD1 ∷ 0xD2 ∷ 0xD3 ∷ 0xD4 ∷ 0xD5 ∷ 0xD6 ∷ 0xD7 ∷
    0xD8 ∷ 0xD9 ∷ 0xE2 ∷ 0xE3 ∷ 0xE4 ∷ 0xE5 ∷ 0xE6 ∷ 0xE7 ∷ 0xE8 ∷ 0xE9 ∷ 0xF0 ∷ 0xF1 ∷ 0xF2 ∷ 0xF3 ∷ 0xF4 ∷ 0xF5 ∷
    0xF6 ∷ 0xF7 ∷ 0xF8 ∷ 0xF9 ∷ 0x7B ∷ 0x7C ∷ 0x5B ∷ 0x60 ∷ 0x40 ∷ []

all_read : map character_of name_codes ≡ name_characters
unfolding code_page_037 name_characters
all_read = refl

pub character_read : (i : ℕ) → i < 41 → character_of (slice_index_or name_codes i 0) ≡ slice_index_or name_characters i 0
character_read i below = sym (get_or-map character_of name_codes i 0 0 below) ∙ ap (λ (s : List ℕ). slice_index_or s i 0) all_read

is_same : (a b : ℕ) → a ≡ b → (a == b) ≡ true
is_same a b same = grind arith

is_other : (a b : ℕ) → a ≢ b → (a == b) ≡ false
is_other a b other = grind arith

-- a character that stands at a place of the list is in it, and its byte is the one at that place
pub is_there : (c i : ℕ) → i < 41 → slice_index_or name_characters i 0 ≡ c → is_name_character c ≡ true
unfolding name_characters
is_there c i below same =
    list_any_at (λ (it : ℕ). it == c) name_characters i 0 below (is_same (slice_index_or name_characters i 0) c same)

pub byte_there : (c i : ℕ) → i < 41 → slice_index_or name_characters i 0 ≡ c → character_of (slice_index_or name_codes i 0) ≡ c
byte_there c i below same = character_read i below ∙ same

-- one character more that it is not
pub passed : (c i : ℕ) → i < 41 → list_any (λ it. it == c) (take i name_characters) ≡ false
    → slice_index_or name_characters i 0 ≢ c → list_any (λ it. it == c) (take (i + 1) name_characters) ≡ false
unfolding name_characters
passed c i below before other =
    list_any_more (λ (it : ℕ). it == c) name_characters i 0 below
    ∙ rw (before, is_other (slice_index_or name_characters i 0) c other) refl

pub none : (c i : ℕ) → 41 ≤ i → list_any (λ it. it == c) (take i name_characters) ≡ false → is_name_character c ≡ false
unfolding name_characters
none c i all before = ap (list_any (λ (it : ℕ). it == c)) (sym (take_all i name_characters all)) ∙ before
