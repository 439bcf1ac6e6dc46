-- Numbers in digits, in capitals.
use Rattle.std.specs.Prelude.{ℕ, ◌+◌, ◌-◌, ◌*◌, List, [], ◌∷◌, length, ◌&&◌, ◌||◌, nat_lt, nat_le, Option, Some, None, option_map, option_and_then}
use Rattle.std.specs.Prelude.{if◌then◌else◌}

-- the value of a digit, 0 to 9 or A to F, of a base of at most 16
abbrev pub digit_of : (base : ℕ) → ℕ → Option ℕ
digit_of base byte =
    let value = if nat_le 65 byte then byte - 55 else byte - 48 in
    if (nat_le 48 byte && nat_le byte 57 || nat_le 65 byte && nat_le byte 70) && nat_lt value base then Some value
    else None

-- the number that these digits spell behind those of n
abbrev pub number_behind : (n base : ℕ) → List ℕ → Option ℕ
number_behind n base [] = Some n
number_behind n base (byte ∷ text) =
    option_and_then (λ digit. number_behind (base * n + digit) base text) (digit_of base byte)

-- the number that a word of `least` to `most` digits spells
abbrev pub number_of : (base least most : ℕ) → List ℕ → Option ℕ
number_of base least most word =
    if nat_le least (length word) && nat_le (length word) most then number_behind 0 base word else None

-- an input/output address: three hexadecimal digits
abbrev pub device_address_of : List ℕ → Option ℕ
device_address_of word = number_of 16 3 3 word

-- a storage address: one to six hexadecimal digits
abbrev pub storage_address_of : List ℕ → Option ℕ
storage_address_of word = number_of 16 1 6 word

-- a storage key: one hexadecimal digit
abbrev pub key_of : List ℕ → Option ℕ
key_of word = number_of 16 1 1 word

-- a number, if it is within limits
abbrev pub within : (least most : ℕ) → ℕ → Option ℕ
within least most n = if nat_le least n && nat_le n most then Some n else None

-- a number: one to five decimal digits, within limits
abbrev pub count_within : (least most : ℕ) → List ℕ → Option ℕ
count_within least most word = option_and_then (within least most) (number_of 10 1 5 word)

-- the units of a run: one to ten decimal digits, from 1 to 4,294,967,295
abbrev pub run_units_of : List ℕ → Option ℕ
run_units_of word = option_and_then (within 1 4294967295) (number_of 10 1 10 word)

-- the bytes that pairs of hexadecimal digits spell
abbrev pub bytes_of : List ℕ → Option (List ℕ)
bytes_of [] = Some []
bytes_of (high ∷ []) = None
bytes_of (high ∷ low ∷ digits) =
    option_and_then (λ h. option_and_then (λ l. option_map (λ bytes. (16 * h + l) ∷ bytes) (bytes_of digits))
    (digit_of 16 low)) (digit_of 16 high)

-- 1 to 128 bytes
abbrev pub stored_bytes_of : (digits : List ℕ) → Option (List ℕ)
stored_bytes_of digits = if nat_le 2 (length digits) && nat_le (length digits) 256 then bytes_of digits else None
