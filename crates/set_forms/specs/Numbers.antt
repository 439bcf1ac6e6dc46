-- Numbers in digits, and days, as a text has them. Letters are capitals.
use Rattle.std.specs.Prelude.{ℕ, ◌+◌, ◌-◌, ◌*◌, ◌==◌, ◌&&◌, ◌||◌, not, nat_lt, nat_le, if◌then◌else◌, List, [], ◌∷◌, length, take, drop}
use Rattle.std.specs.Prelude.{slice_index, bytes_eq, codes, Option, Some, None, option_map, option_and_then}
use Rattle.std.specs.List.{concat}
use Rattle.std.specs.Fmt.{decimal}
use Rattle.std.specs.Str.{all_ascii_digits}
use Rattle.volume_labels.specs.declared.fields.Date.{Date}

-- Decimal numbers.

-- the number of digits that stand behind those of n
abbrev pub digits_behind : (n : ℕ) → List ℕ → ℕ
digits_behind n [] = n
digits_behind n (c ∷ word) = digits_behind (10 * n + (c - 48)) word

-- a number that is not above a limit
abbrev pub at_most : (most n : ℕ) → Option ℕ
at_most most n = if nat_lt most n then None else Some n

-- one to ten decimal digits, and no more than the limit
unfoldable pub number_of : (most : ℕ) → List ℕ → Option ℕ
number_of most word =
    if (length word == 0) || nat_lt 10 (length word) then None
    else (if all_ascii_digits word then at_most most (digits_behind 0 word)
    else None)

-- Bytes in hexadecimal digits, two each.

-- the value of a digit
abbrev pub digit_of : ℕ → Option ℕ
digit_of c =
    if nat_le 48 c && nat_le c 57 then Some (c - 48)
    else (if nat_le 65 c && nat_le c 70 then Some (c - 65 + 10)
    else None)

-- the byte of two digits
abbrev pub byte_of : (high low : ℕ) → Option ℕ
byte_of high low = option_and_then (λ h. option_map (λ l. 16 * h + l) (digit_of low)) (digit_of high)

-- the bytes of pairs of digits
abbrev pub bytes_of : List ℕ → Option (List ℕ)
bytes_of [] = Some []
bytes_of (high ∷ []) = None
bytes_of (high ∷ low ∷ digits) = option_and_then (λ b. option_map (λ bytes. b ∷ bytes) (bytes_of digits)) (byte_of high low)

-- those of six digits
abbrev pub three_of : List ℕ → Option (List ℕ)
three_of digits = if length digits == 6 then bytes_of digits else None

-- Days: the year and the day of it in three digits or more, or a hyphen for none. A label has years from 1900 on.

-- zeros before a number of fewer than three digits
abbrev pub zeros : ℕ → List ℕ
zeros n = if nat_le n 9 then codes "00" else (if nat_le n 99 then codes "0" else [])

unfoldable pub day_text : Date → List ℕ
day_text d =
    if (d.year == 0) && (d.day == 0) then codes "-"
    else concat (decimal (1900 + d.year) ∷ codes "-" ∷ zeros d.day ∷ decimal d.day ∷ [])

-- years are counted from 1900 on
abbrev pub since_1900 : ℕ → Option ℕ
since_1900 year = if nat_lt year 1900 then None else Some (year - 1900)

abbrev pub year_of : List ℕ → Option ℕ
year_of digits = option_and_then since_1900 (number_of 2155 digits)

-- the year has four digits, and a hyphen behind it
unfoldable pub day_of : List ℕ → Option Date
day_of word =
    if bytes_eq word (codes "-") then Some (record { year = 0; day = 0 })
    else (if nat_lt (length word) 5 || not (slice_index word 4 == 45) then None
    else option_and_then (λ year. option_map (λ day. record { year = year; day = day }) (number_of 65535 (drop 5 word))) (year_of
    (take 4 word)))
