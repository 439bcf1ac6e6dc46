-- Constants and areas of storage, as operands spell them: how often, a letter for the kind, and what it is.
use Rattle.std.specs.Prelude.{ℕ, ◌*◌, List, [], ◌∷◌, length, take, drop, slice_index_or, replicate, flat_map, position, Bool, not, ◌&&◌}
use Rattle.std.specs.Prelude.{◌||◌, ◌==◌, nat_le, false, Option, Some, None, option_map, option_and_then, if◌then◌else◌}
use Rattle.std.specs.List.{position_or_len}
use Rattle.byteorder.specs.Endian.{big_bytes}
use Rattle.volume_labels.specs.Ebcdic.{code_page_037}
use Rattle.s360_deck.specs.Digits.{number_of, within, stored_bytes_of}
use Rattle.s360_assembler.specs.declared.constants.Boundary.{Boundary}
use Rattle.s360_assembler.specs.declared.constants.Boundary.TheVariants.{Byte, Halfword, Fullword, Doubleword}
use Rattle.s360_assembler.specs.Numbers.{has_apostrophes, quoted}

-- The byte of a printing character of ASCII in EBCDIC.
abbrev pub ebcdic_of : ℕ → Option ℕ
ebcdic_of character =
    if nat_le 32 character && nat_le character 126 then position (λ c. c == character) code_page_037 else None

-- A text between apostrophes in EBCDIC, if each of its characters has a byte. An apostrophe in it is written twice: after the first of
-- the two, `half` is true, and nothing but the second may follow.
abbrev pub ebcdic_text : (half : Bool) → List ℕ → Option (List ℕ)
ebcdic_text half [] = if half then None else Some []
ebcdic_text half (character ∷ text) =
    let first = character == 39 && not half in
    let behind = ebcdic_text first text in
    if half && not (character == 39) then None
    else (if first then behind else option_and_then (λ byte. option_map (λ bytes. byte ∷ bytes) behind) (ebcdic_of character))

-- at most 128 bytes
abbrev pub at_most_128 : List ℕ → Option (List ℕ)
at_most_128 bytes = if nat_le (length bytes) 128 then Some bytes else None

-- the bytes of C'..': at most 128 characters, in at most 256 bytes of the text
abbrev pub character_bytes : List ℕ → Option (List ℕ)
character_bytes text = if nat_le (length text) 256 then option_and_then at_most_128 (ebcdic_text false text) else None

-- How often.

-- a byte that is no decimal digit
abbrev pub is_no_digit : ℕ → Bool
is_no_digit byte = not (nat_le 48 byte && nat_le byte 57)

-- how many decimal digits a text begins with
abbrev pub digits_length : List ℕ → ℕ
digits_length text = position_or_len is_no_digit text

-- the number in front; once where there is none
abbrev pub times_of : List ℕ → Option ℕ
times_of text = if digits_length text == 0 then Some 1 else number_of 10 1 7 (take (digits_length text) text)

-- the kind and what it is, behind the number
abbrev pub unit_of : List ℕ → List ℕ
unit_of text = drop (digits_length text) text

-- What it is.

-- a decimal number in so many bytes
abbrev pub decimal_bytes : (width most : ℕ) → List ℕ → Option (List ℕ)
decimal_bytes width most digits = option_map (big_bytes width) (option_and_then (within 0 most) (number_of 10 1 10 digits))

-- X'..' is hexadecimal, C'..' characters in EBCDIC, F'..' a number in four bytes and H'..' one in two
abbrev pub bytes_of_kind : (letter : ℕ) → List ℕ → Option (List ℕ)
bytes_of_kind letter text =
    if letter == 88 then stored_bytes_of text
    else (if letter == 67 then character_bytes text
    else (if letter == 70 then decimal_bytes 4 4294967295 text
    else (if letter == 72 then decimal_bytes 2 65535 text
    else None)))

-- the letter, and what stands in the apostrophes
abbrev pub letter_and_text : List ℕ → Option (ℕ × List ℕ)
letter_and_text unit = if has_apostrophes unit then Some (slice_index_or unit 0 0, quoted unit) else None

-- the bytes of a kind and of what it is
abbrev pub bytes_of_unit : List ℕ → Option (List ℕ)
bytes_of_unit unit = option_and_then (λ parts. bytes_of_kind parts.0 parts.1) (letter_and_text unit)

-- 1 to 128 bytes in all
abbrev pub repeated : (times : ℕ) → List ℕ → Option (List ℕ)
repeated times bytes =
    if nat_le 1 (times * length bytes) && nat_le (times * length bytes) 128
    then Some (flat_map (λ part. part) (replicate times bytes)) else None

-- the bytes of a constant
abbrev pub constant_of : List ℕ → Option (List ℕ)
constant_of text =
    option_and_then (λ times. option_and_then (repeated times) (bytes_of_unit (unit_of text))) (times_of text)

-- Areas.

-- the bytes between two places of a boundary
abbrev pub bytes_between : Boundary → ℕ
bytes_between Doubleword = 8
bytes_between Fullword = 4
bytes_between Halfword = 2
bytes_between Byte = 1

-- the boundary of a kind, of which one takes as many bytes: a doubleword, a word or an address, a halfword, or a byte
abbrev pub boundary_of_kind : ℕ → Boundary
boundary_of_kind letter =
    if letter == 68 then Doubleword
    else (if letter == 70 || letter == 65 then Fullword else (if letter == 72 then Halfword else Byte))

-- the boundary that a constant or an area stands on
abbrev pub boundary_of_unit : List ℕ → Boundary
boundary_of_unit unit = boundary_of_kind (slice_index_or unit 0 0)

-- the kinds of areas: X, C, H, F and D
abbrev pub is_kind : ℕ → Bool
is_kind letter = letter == 88 || (letter == 67 || (letter == 72 || (letter == 70 || letter == 68)))

-- a length behind X or C, as CL80
abbrev pub length_of_unit : List ℕ → Option ℕ
length_of_unit unit =
    if (slice_index_or unit 0 0 == 88 || slice_index_or unit 0 0 == 67) && slice_index_or unit 1 0 == 76
    then number_of 10 1 6 (drop 2 unit) else None

-- how many bytes an area has: so many of its kind, or as its length says
abbrev pub area_of : List ℕ → Option ℕ
area_of text =
    let unit = unit_of text in
    if length unit == 1 && is_kind (slice_index_or unit 0 0)
    then option_map (λ times. times * bytes_between (boundary_of_unit unit)) (times_of text)
    else (if digits_length text == 0 then length_of_unit unit else None)
