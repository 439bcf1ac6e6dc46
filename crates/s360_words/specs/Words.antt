-- The words of a channel program (Principles of Operation, Input/Output Operations: 'Channel Address Word',
-- 'Channel Command Word', 'Channel Status Word'). The bits of a word are counted from the left.
use Rattle.std.specs.Prelude.{ℕ, ◌*◌, ◌/◌, ◌%◌, ◌^◌, List, ◌∷◌, ◌++◌, Bool, not, ◌&&◌, ◌==◌, Option, Some, None, slice_index, slice_range, bit_and}
use Rattle.std.specs.Prelude.{if◌then◌else◌}
use Rattle.byteorder.specs.Endian.{big_number, big_bytes}
use Rattle.s360_words.specs.declared.words.Caw.{Caw}
use Rattle.s360_words.specs.declared.words.Ccw.{Ccw}
use Rattle.s360_words.specs.declared.words.Csw.{Csw}

-- whether a byte has one of these bits
abbrev pub has : (byte bits : ℕ) → Bool
has byte bits = not (bit_and byte bits == 0)

-- The channel address word: bits 0 to 3 are the key, bits 8 to 31 the address of the first channel command word,
-- and there is none where one of bits 4 to 7 or 29 to 31 is not zero.
abbrev pub caw_of : ℕ → Option Caw
caw_of word =
    if (word / 2 ^ 24 % 16 == 0) && (word % 8 == 0) then Some (record { key = word / 2 ^ 28; address = word % 2 ^ 24 })
    else None

-- The channel command word of eight bytes: the command code, the data address, the flags, a byte that is ignored,
-- and the count.
abbrev pub ccw_of : List ℕ → Ccw
ccw_of bytes = record {
  code = slice_index bytes 0;
  address = big_number 3 (slice_range bytes 1 4);
  flags = record { 0 = slice_index bytes 4 };
  count = big_number 2 (slice_range bytes 6 8);
}

-- whether the next word has a further area of the same command
abbrev pub chains_data : Ccw → Bool
chains_data ccw = has ccw.flags.0 0x80

-- command chaining needs chain data to be off
abbrev pub chains_command : Ccw → Bool
chains_command ccw = has ccw.flags.0 0x40 && not (chains_data ccw)

-- and so does suppressing the indication of incorrect length
abbrev pub suppresses_length : Ccw → Bool
suppresses_length ccw = has ccw.flags.0 0x20 && not (chains_data ccw)

-- whether what is read is kept out of storage
abbrev pub skips : Ccw → Bool
skips ccw = has ccw.flags.0 0x10

-- whether an interruption is asked for as this word is fetched
abbrev pub interrupts : Ccw → Bool
interrupts ccw = has ccw.flags.0 0x08

-- whether one of the three flag bits is set that must be zero, but in a transfer in channel
abbrev pub has_reserved_flags : Ccw → Bool
has_reserved_flags ccw = has ccw.flags.0 0x07

-- a transfer in channel: any code whose low four bits are 1000
abbrev pub is_transfer : Ccw → Bool
is_transfer ccw = ccw.code % 16 == 8

-- The channel status word of eight bytes: the key and four zeros, the command address, unit and channel status, and
-- the residual count. The key and the address are taken modulo 2 to the 4 and 2 to the 24, as wide as their fields.
abbrev pub csw_bytes : Csw → List ℕ
csw_bytes csw =
    (csw.key % 16 * 16 ∷ big_bytes 3 csw.address) ++ (csw.unit.0 ∷ csw.channel.0 ∷ big_bytes 2 csw.count)

-- the channel status word that eight bytes are
abbrev pub csw_of : List ℕ → Csw
csw_of bytes = record {
  key = slice_index bytes 0 / 16;
  address = big_number 3 (slice_range bytes 1 4);
  unit = record { 0 = slice_index bytes 4 };
  channel = record { 0 = slice_index bytes 5 };
  count = big_number 2 (slice_range bytes 6 8);
}
