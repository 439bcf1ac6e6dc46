-- The words of organisations and record formats (System Control Blocks, 'Data Set Control Block', format 1, DS1DSORG and DS1RECFM).
use Rattle.std.specs.Prelude.{ℕ, ◌+◌, ◌-◌, ◌*◌, ◌/◌, ◌%◌, ◌==◌, Bool, ◌&&◌, ◌||◌, not, nat_lt, if◌then◌else◌, List, [], ◌∷◌, length}
use Rattle.std.specs.Prelude.{bit_and, bit_or}
use Rattle.std.specs.Prelude.{slice_index, slice_range, bytes_eq, codes, Option, Some, None, option_map, option_and_then}
use Rattle.std.specs.List.{concat}
use Rattle.counted_io.specs.Text.{bytes_text}
use Rattle.set_forms.specs.Numbers.{byte_of}

-- Bits in hexadecimal digits, as X'91'.

abbrev pub bits_text : (bytes : List ℕ) → List ℕ
bits_text bytes = concat (codes "X'" ∷ bytes_text bytes ∷ codes "'" ∷ [])

-- the digits of such a word
abbrev pub quoted : List ℕ → Option (List ℕ)
quoted word =
    if nat_lt (length word) 3 || not ((slice_index word 0 == 88) && ((slice_index word 1 == 39)
    && (slice_index word (length word - 1) == 39))) then None
    else Some (slice_range word 2 (length word - 1))

-- Organisations: physical sequential, partitioned, direct, and indexed sequential have letters.

unfoldable pub organisation_text : ℕ → List ℕ
organisation_text bits =
    if bits == 0x4000 then codes "PS"
    else (if bits == 0x0200 then codes "PO"
    else (if bits == 0x2000 then codes "DA"
    else (if bits == 0x8000 then codes "IS"
    else bits_text (bits / 256 ∷ bits % 256 ∷ []))))

abbrev pub organisation_bits : List ℕ → Option ℕ
organisation_bits (a ∷ b ∷ c ∷ d ∷ []) = option_and_then (λ high. option_map (λ low. 256 * high + low) (byte_of c d)) (byte_of a b)
organisation_bits digits = None

unfoldable pub organisation_of : List ℕ → Option ℕ
organisation_of word =
    if bytes_eq word (codes "PS") then Some 0x4000
    else (if bytes_eq word (codes "PO") then Some 0x0200
    else (if bytes_eq word (codes "DA") then Some 0x2000
    else (if bytes_eq word (codes "IS") then Some 0x8000
    else option_and_then organisation_bits (quoted word))))

-- Record formats: a letter of the form, and one for each flag. The two high bits are the form, and the lowest bit has no letter.

abbrev pub is_lettered : ℕ → Bool
is_lettered format = not (bit_and format 0xC0 == 0) && (bit_and format 0x01 == 0)

-- fixed, variable, or undefined
abbrev pub form_letter : ℕ → List ℕ
form_letter format = if format / 64 == 2 then codes "F" else (if format / 64 == 1 then codes "V" else codes "U")

abbrev pub letter_if : (format flag : ℕ) → List ℕ → List ℕ
letter_if format flag letter = if bit_and format flag == 0 then [] else letter

-- blocked, standard or spanned, with track overflow, with control characters of ASA or of the machine
abbrev pub format_letters : ℕ → List ℕ
format_letters format = concat (
    form_letter format ∷ letter_if format 0x10 (codes "B") ∷ letter_if format 0x08 (codes "S") ∷ letter_if format 0x20 (codes "T")
    ∷ letter_if format 0x04 (codes "A") ∷ letter_if format 0x02 (codes "M") ∷ [])

unfoldable pub format_text : ℕ → List ℕ
format_text format = if is_lettered format then format_letters format else bits_text (format ∷ [])

-- the bits of a letter
abbrev pub form_of : ℕ → Option ℕ
form_of c = if c == 70 then Some 0x80 else (if c == 86 then Some 0x40 else (if c == 85 then Some 0xC0 else None))

abbrev pub flag_of : ℕ → Option ℕ
flag_of c =
    if c == 66 then Some 0x10
    else (if c == 83 then Some 0x08
    else (if c == 84 then Some 0x20
    else (if c == 65 then Some 0x04
    else (if c == 77 then Some 0x02
    else None))))

-- a format, with the flags of letters
abbrev pub letters_behind : (format : ℕ) → List ℕ → Option ℕ
letters_behind format [] = Some format
letters_behind format (c ∷ letters) = option_and_then (λ flag. letters_behind (bit_or format flag) letters) (flag_of c)

abbrev pub lettered : List ℕ → Option ℕ
lettered [] = None
lettered (c ∷ letters) = option_and_then (λ form. letters_behind form letters) (form_of c)

abbrev pub format_bits : List ℕ → Option ℕ
format_bits (high ∷ low ∷ []) = byte_of high low
format_bits digits = None

-- the byte of a word of bits
abbrev pub byte_in : (word : List ℕ) → Option ℕ
byte_in word = option_and_then format_bits (quoted word)

-- the format of digits, or of letters
abbrev pub format_in : Option (List ℕ) → (word : List ℕ) → Option ℕ
format_in (Some digits) word = format_bits digits
format_in None word = lettered word

unfoldable pub format_of : List ℕ → Option ℕ
format_of word = format_in (quoted word) word
