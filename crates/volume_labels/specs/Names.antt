-- Names of files that are made of names in EBCDIC.
use Rattle.std.specs.Prelude.{ℕ, ◌+◌, ◌-◌, ◌/◌, ◌%◌, ◌==◌, Bool, true, false, ◌&&◌, ◌||◌, not, nat_lt, nat_le, if◌then◌else◌, List, [], ◌∷◌, ◌++◌, length, drop}
use Rattle.std.specs.Prelude.{slice_index}
use Rattle.std.specs.List.{flat_map}
use Rattle.volume_labels.specs.Ebcdic.{character_of}
use Rattle.volume_labels.specs.Lines.{without_blanks}

-- a capital letter, a digit, or one of .-_@#$
abbrev pub is_plain : ℕ → Bool
is_plain c =
    (nat_le 65 c && nat_le c 90) || (nat_le 48 c && nat_le c 57) || (c == 46) || (c == 45) || (c == 95) || (c == 64) || (c == 35) || (c == 36)

-- a hexadecimal digit, in capitals
abbrev pub digit : ℕ → ℕ
digit n = if nat_lt n 10 then 48 + n else 65 + (n - 10)

-- a byte in the name of a file: its character, or a percent sign and two hexadecimal digits; so is a period at the front
abbrev pub byte_name : (is_first : Bool) → ℕ → List ℕ
byte_name is_first b =
    if is_plain (character_of b) && not (is_first && (character_of b == 46)) then character_of b ∷ []
    else 37 ∷ digit (b / 16) ∷ digit (b % 16) ∷ []

abbrev pub bytes_names : List ℕ → List ℕ
bytes_names bytes =
    if length bytes == 0 then byte_name true 0x40
    else byte_name true (slice_index bytes 0) ++ flat_map (byte_name false) (drop 1 bytes)

-- the name of a file for a name, whose blanks at the end are left out; a name of blanks alone is one blank
abbrev pub safe_name_of : List ℕ → List ℕ
safe_name_of name = bytes_names (without_blanks name)
