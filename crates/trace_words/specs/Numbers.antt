-- Numbers as a trace has them, in hexadecimal digits, which are capitals.
use Rattle.std.specs.Prelude.{ℕ, List}
use Rattle.counted_io.specs.Text.{hexadecimal}

-- an address in storage, in six digits
abbrev pub storage_address : ℕ → List ℕ
storage_address address = hexadecimal 6 address

-- an input/output address, in three digits
abbrev pub device_address : ℕ → List ℕ
device_address address = hexadecimal 3 address

-- a protection key, in its digit
abbrev pub key_digit : ℕ → List ℕ
key_digit key = hexadecimal 1 key
