-- The named bits of channel command words and channel status words (Principles of Operation, Input/Output Operations,
-- 'Channel Command Word' and 'Channel Status Word').
use Rattle.std.specs.Prelude.{ℕ, List, [], ◌∷◌, codes}

-- bits 32 to 36 of a channel command word
abbrev pub ccw_flags : List (List ℕ × ℕ)
ccw_flags =
    (codes "CHAIN_DATA", 0x80)
    ∷ (codes "CHAIN_COMMAND", 0x40)
    ∷ (codes "SUPPRESS_LENGTH_INDICATION", 0x20)
    ∷ (codes "SKIP", 0x10)
    ∷ (codes "PROGRAM_CONTROLLED_INTERRUPTION", 0x08)
    ∷ []

-- the unit status: bits 32 to 39 of a channel status word
abbrev pub unit_status_bits : List (List ℕ × ℕ)
unit_status_bits =
    (codes "ATTENTION", 0x80)
    ∷ (codes "STATUS_MODIFIER", 0x40)
    ∷ (codes "CONTROL_UNIT_END", 0x20)
    ∷ (codes "BUSY", 0x10)
    ∷ (codes "CHANNEL_END", 0x08)
    ∷ (codes "DEVICE_END", 0x04)
    ∷ (codes "UNIT_CHECK", 0x02)
    ∷ (codes "UNIT_EXCEPTION", 0x01)
    ∷ []

-- the channel status: bits 40 to 47 of a channel status word
abbrev pub channel_status_bits : List (List ℕ × ℕ)
channel_status_bits =
    (codes "PROGRAM_CONTROLLED_INTERRUPTION", 0x80)
    ∷ (codes "INCORRECT_LENGTH", 0x40)
    ∷ (codes "PROGRAM_CHECK", 0x20)
    ∷ (codes "PROTECTION_CHECK", 0x10)
    ∷ (codes "CHANNEL_DATA_CHECK", 0x08)
    ∷ (codes "CHANNEL_CONTROL_CHECK", 0x04)
    ∷ (codes "INTERFACE_CONTROL_CHECK", 0x02)
    ∷ (codes "CHAINING_CHECK", 0x01)
    ∷ []
