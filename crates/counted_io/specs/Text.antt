-- Numbers and bytes in digits. Hexadecimal digits are capitals.
use Rattle.std.specs.Prelude.{ℕ, ◌-◌, List, ◌++◌, true, length, replicate}
use Rattle.std.specs.List.{flat_map}
use Rattle.std.specs.Fmt.{digits}

-- a number in hexadecimal digits, with zeros in front of it up to a width
abbrev pub hexadecimal : (width n : ℕ) → List ℕ
hexadecimal width n = replicate (width - length (digits 16 true n)) 48 ++ digits 16 true n

-- each byte in two digits
abbrev pub bytes_text : List ℕ → List ℕ
bytes_text bytes = flat_map (hexadecimal 2) bytes
