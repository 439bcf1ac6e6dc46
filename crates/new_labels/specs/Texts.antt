-- Names in a label: the characters that they may have, and how they stand in EBCDIC.
use Rattle.std.specs.Prelude.{◌≡◌, ℕ, ◌<◌, ◌≤◌, ◌==◌, Bool, true, false, not, ◌&&◌, nat_le, List, length, slice_index, Option, Some, None, codes}
use Rattle.std.specs.List.{list_all, list_any}
use Rattle.volume_labels.specs.Ebcdic.{character_of}

-- the characters of a name, a blank as the last one
unfoldable pub name_characters : List ℕ
name_characters = codes "ABCDEFGHIJKLMNOPQRSTUVWXYZ0123456789#@$- "

-- a name may have this character
abbrev pub is_name_character : ℕ → Bool
is_name_character character = list_any (λ it. it == character) name_characters

abbrev pub is_blank : ℕ → Bool
is_blank character = character == 32

-- a serial number: 1 to 6 characters of a name, none of them a blank
abbrev pub is_serial : List ℕ → Bool
is_serial text = nat_le 1 (length text) && (nat_le (length text) 6 && (not (list_any is_blank text) && list_all is_name_character text))

-- an owner's name: at most 10 characters of a name
abbrev pub is_owner : List ℕ → Bool
is_owner text = nat_le (length text) 10 && list_all is_name_character text

-- A field has a text in EBCDIC at its beginning, by the table of code page 037, and blanks behind it.
pub record IsSpelled (text field : List ℕ) : Type 0 where
  pub characters : (k : ℕ) → k < length text → character_of (slice_index field k) ≡ slice_index text k
  pub blanks : (k : ℕ) → length text ≤ k → k < length field → slice_index field k ≡ 0x40

-- the field of a text that is such a name; none of another one
abbrev pub MakesField : (is_one : Bool) → (text : List ℕ) → Option (List ℕ) → Type 0
MakesField is_one text (Some field) = (is_one ≡ true) × IsSpelled text field
MakesField is_one text None = is_one ≡ false

-- the byte of a character that a name may have; none of another one
abbrev pub Encodes : (character : ℕ) → Option ℕ → Type 0
Encodes character (Some code) = (is_name_character character ≡ true) × (character_of code ≡ character)
Encodes character None = is_name_character character ≡ false
