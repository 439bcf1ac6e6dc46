-- The fields whose bits have names, by the tables of names (Principles of Operation, 'Channel Command Word' and 'Channel
-- Status Word'; component descriptions, 'Sense').
use Rattle.std.specs.Prelude.{ℕ, ◌+◌, List, map, ◌&&◌, ◌||◌, ◌==◌, nat_le, IfSome, ◌≡◌, find, if◌then◌else◌}
use Rattle.s360_words.specs.Flags.{ccw_flags, unit_status_bits, channel_status_bits}
use Rattle.ckd_sense.specs.SenseBytes.{sense_bits}
use Rattle.s360_explain.specs.declared.bits.Field.{Field}
use Rattle.s360_explain.specs.declared.bits.Field.TheVariants.{UnitStatus, ChannelStatus, CcwFlags, SenseBytes}

-- the table of a field: its bits from the left, each with its name
abbrev pub rows_of : Field → List (List ℕ × ℕ)
rows_of UnitStatus = unit_status_bits
rows_of ChannelStatus = channel_status_bits
rows_of CcwFlags = ccw_flags
rows_of SenseBytes = sense_bits

-- the bits of a field that have names
abbrev pub bits_of : Field → List ℕ
bits_of field = map (λ row. row.1) (rows_of field)

-- a letter of a name as it is spoken: capitals are small, and a blank stands for an underscore or a hyphen
abbrev pub spoken_letter : ℕ → ℕ
spoken_letter c =
    if c == 95 || c == 45 then 32
    else (if nat_le 65 c && nat_le c 90 then c + 32 else c)

-- a name as it is spoken
abbrev pub spoken : List ℕ → List ℕ
spoken name = map spoken_letter name

-- a name is that of the bit, if a row has the bit: both are spoken alike
abbrev pub IsNamed : (rows : List (List ℕ × ℕ)) (bit : ℕ) (name : List ℕ) → Type 0
IsNamed rows bit name = IfSome (find (λ row. row.1 == bit) rows) (λ row. spoken name ≡ spoken row.0)
