-- Names as those of files spell them: capital letters, digits and .-_@#$ stand for themselves, and a percent sign and two hexadecimal
-- digits for any byte of EBCDIC.
use Rattle.std.specs.Prelude.{ℕ, ◌+◌, ◌-◌, ◌==◌, ◌&&◌, ◌||◌, nat_lt, nat_le, if◌then◌else◌, List, [], ◌∷◌, ◌++◌, length, replicate}
use Rattle.std.specs.Prelude.{Option, Some, None, option_map, option_and_then, zero, suc, drop}
use Rattle.set_forms.specs.Numbers.{byte_of}

-- the byte of EBCDIC of a character that stands for itself
abbrev pub plain_byte : ℕ → Option ℕ
plain_byte c =
    if nat_le 65 c && nat_le c 73 then Some (c + 0x80)
    else (if nat_le 74 c && nat_le c 82 then Some (c + 0x87)
    else (if nat_le 83 c && nat_le c 90 then Some (c + 0x8F)
    else (if nat_le 48 c && nat_le c 57 then Some (c + 0xC0)
    else (if c == 46 then Some 0x4B
    else (if c == 45 then Some 0x60
    else (if c == 95 then Some 0x6D
    else (if c == 64 then Some 0x7C
    else (if c == 35 then Some 0x7B
    else (if c == 36 then Some 0x5B
    else None)))))))))

-- the byte that a character spells, with the digits behind a percent sign
abbrev pub escaped : List ℕ → Option ℕ
escaped (high ∷ low ∷ word) = byte_of high low
escaped word = None

abbrev pub byte_before : ℕ → (behind : List ℕ) → Option ℕ
byte_before c behind = if c == 37 then escaped behind else plain_byte c

-- and what stands behind it
abbrev pub left_behind : ℕ → (behind : List ℕ) → List ℕ
left_behind c behind = if c == 37 then drop 2 behind else behind

abbrev pub and_more : Option ℕ → (Option (List ℕ)) → Option (List ℕ)
and_more None more = None
and_more (Some b) more = option_map (λ bytes. b ∷ bytes) more

-- the bytes that characters spell; each takes a character at least, so their number bounds the bytes
abbrev pub bytes_within : (most : ℕ) → List ℕ → Option (List ℕ)
bytes_within most [] = Some []
bytes_within zero (c ∷ word) = None
bytes_within (suc most) (c ∷ word) = and_more (byte_before c word) (bytes_within most (left_behind c word))

abbrev pub name_bytes : List ℕ → Option (List ℕ)
name_bytes word = bytes_within (length word) word

-- a name of so many bytes, with blanks behind it
abbrev pub in_room : (room : ℕ) → List ℕ → Option (List ℕ)
in_room room bytes =
    if (length bytes == 0) || nat_lt room (length bytes) then None else Some (bytes ++ replicate (room - length bytes) 0x40)

-- the name that a word spells; three characters spell a byte at most
unfoldable pub name_of : (room : ℕ) → List ℕ → Option (List ℕ)
name_of room word = if nat_lt 132 (length word) then None else option_and_then (in_room room) (name_bytes word)
