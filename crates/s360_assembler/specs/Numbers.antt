-- Numbers, addresses and flags as operands spell them.
use Rattle.std.specs.Prelude.{ℕ, ◌+◌, ◌-◌, List, [], ◌∷◌, ◌++◌, length, take, drop, slice_index, slice_index_or, Bool, ◌&&◌, ◌||◌, ◌==◌}
use Rattle.std.specs.Prelude.{nat_le, bit_or, replicate, position, Option, Some, None, option_map, option_and_then, codes, if◌then◌else◌}
use Rattle.std.specs.List.{slice_split, list_all}
use Rattle.std.specs.Str.{bytes_eq}
use Rattle.s360_deck.specs.Digits.{number_of, within}
use Rattle.s360_assembler.specs.declared.numbers.Base.{Base}
use Rattle.s360_assembler.specs.declared.numbers.Base.TheVariants.{Nothing, Here, Label}
use Rattle.s360_assembler.specs.declared.numbers.Address.{Address}
use Rattle.s360_assembler.specs.Fields.{is_byte}

-- a letter with a text in apostrophes, as X'1F'
abbrev pub has_apostrophes : List ℕ → Bool
has_apostrophes text =
    nat_le 3 (length text) && (slice_index_or text 1 0 == 39 && slice_index_or text (length text - 1) 0 == 39)

-- one with this letter
abbrev pub is_quoted : (letter : ℕ) → List ℕ → Bool
is_quoted letter text = has_apostrophes text && slice_index_or text 0 0 == letter

-- what stands in its apostrophes
abbrev pub quoted : List ℕ → List ℕ
quoted text = take (length text - 3) (drop 2 text)

-- a number: X'..' with one to six hexadecimal digits, or one to eight decimal digits
abbrev pub number_in : List ℕ → Option ℕ
number_in text = if is_quoted 88 text then number_of 16 1 6 (quoted text) else number_of 10 1 8 text

-- a number of at most so much
abbrev pub number_to : (most : ℕ) → List ℕ → Option ℕ
number_to most text = option_and_then (within 0 most) (number_in text)

-- Symbols.

-- a letter, or one of the three characters that stand for one
abbrev pub is_letter : ℕ → Bool
is_letter byte = (nat_le 65 byte && nat_le byte 90) || (byte == 35 || (byte == 36 || byte == 64))

-- a letter or a decimal digit
abbrev pub is_letter_or_digit : ℕ → Bool
is_letter_or_digit byte = is_letter byte || (nat_le 48 byte && nat_le byte 57)

-- a symbol: one to eight letters and digits, the first a letter
abbrev pub is_symbol : List ℕ → Bool
is_symbol text =
    (nat_le 1 (length text) && nat_le (length text) 8)
    && (is_letter (slice_index_or text 0 0) && list_all is_letter_or_digit text)

-- a symbol with blanks behind it, eight bytes in all
abbrev pub padded : List ℕ → List ℕ
padded text = text ++ replicate (8 - length text) 32

-- Addresses.

-- what an address is counted from: the location counter, as an asterisk, or a symbol
abbrev pub base_of : List ℕ → Option Base
base_of text =
    if bytes_eq text (codes "*") then Some Here
    else (if is_symbol text then Some (Label (padded text)) else None)

-- a plus or a minus
abbrev pub is_sign : ℕ → Bool
is_sign byte = byte == 43 || byte == 45

-- so many bytes behind it, or before it
abbrev pub displaced : (sign : ℕ) → Base → ℕ → Address
displaced sign base number =
    if sign == 45 then record { base = base; plus = 0; minus = number }
    else record { base = base; plus = number; minus = 0 }

-- a base alone, or a base, a sign and a number
abbrev pub counted_from : List ℕ → Option ℕ → Option Address
counted_from text None = option_map (λ base. displaced 43 base 0) (base_of text)
counted_from text (Some at) =
    option_and_then (λ base. option_map (displaced (slice_index text at) base) (number_in (drop (at + 1) text)))
    (base_of (take at text))

-- a number, or else an address that is counted from something
abbrev pub number_or_counted : List ℕ → Option ℕ → Option Address
number_or_counted text (Some number) = Some (displaced 43 Nothing number)
number_or_counted text None = counted_from text (position is_sign text)

-- an address: a number; or a symbol or an asterisk, and behind it perhaps a sign and a number
abbrev pub address_of : List ℕ → Option Address
address_of text = number_or_counted text (number_in text)

-- Flags of channel command words.

-- the bit of a flag
abbrev pub flag_of : List ℕ → Option ℕ
flag_of word =
    if bytes_eq word (codes "CD") then Some 0x80
    else (if bytes_eq word (codes "CC") then Some 0x40
    else (if bytes_eq word (codes "SLI") then Some 0x20
    else (if bytes_eq word (codes "SKIP") then Some 0x10
    else (if bytes_eq word (codes "PCI") then Some 0x08
    else None))))

-- these flags, and those of the words
abbrev pub flags_behind : ℕ → List (List ℕ) → Option ℕ
flags_behind flags [] = Some flags
flags_behind flags (word ∷ words) = option_and_then (λ flag. flags_behind (bit_or flags flag) words) (flag_of word)

-- a plus
abbrev pub is_plus : ℕ → Bool
is_plus = is_byte 43

-- a number, or else the bits of flags by their names
abbrev pub number_or_flags : List ℕ → Option ℕ → Option ℕ
number_or_flags text (Some number) = Some number
number_or_flags text None = flags_behind 0 (slice_split is_plus text)

-- the flags of a word: none; a number to 255; or their names, with plus signs between
abbrev pub flags_of : List ℕ → Option ℕ
flags_of text = if length text == 0 then Some 0 else number_or_flags text (number_to 255 text)
