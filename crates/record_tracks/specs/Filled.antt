-- Bytes that are written from their beginning on, with zeros behind what was written.
use Rattle.std.specs.Prelude.{◌≡◌, ℕ, ◌-◌, List, ◌++◌, length, replicate}

-- these bytes, and zeros behind them up to a size
abbrev pub filled : (size : ℕ) → List ℕ → List ℕ
filled size bytes = bytes ++ replicate (size - length bytes) 0

-- Where there are so many bytes and zeros behind them, these bytes are put behind those, whatever they are.
abbrev pub PutBehind : (at : ℕ) → (bytes before now : List ℕ) → Type 0
PutBehind at bytes before now =
    (front : List ℕ) → length front ≡ at → before ≡ filled (length before) front → now ≡ filled (length before) (front ++ bytes)
