-- Main storage (Principles of Operation: 'Main Storage', and 'Storage Protection' with its blocks of 2,048 bytes).
use Rattle.std.specs.Prelude.{ℕ, zero, suc, ◌+◌, ◌/◌, ◌%◌, List, [], ◌∷◌, Bool, ◌&&◌, ◌||◌, ◌==◌, nat_lt, nat_le, length, replicate, slice_index, slice_range}
use Rattle.std.specs.Prelude.{slice_set}
use Rattle.byteorder.specs.Endian.{big_number}
use Rattle.s360_words.specs.declared.words.Ccw.{Ccw}
use Rattle.s360_words.specs.declared.words.Csw.{Csw}
use Rattle.s360_words.specs.Words.{ccw_of, csw_bytes}

-- storage: its bytes, and a storage key for each block of 2,048 bytes
pub record Storage : Type 0 where
  pub bytes : List ℕ
  pub keys : List ℕ

-- the sizes that a storage can have: multiples of 2,048 from 4,096 to 16,777,216
abbrev pub is_size : ℕ → Bool
is_size size = nat_le 4096 size && nat_le size 16777216 && (size % 2048 == 0)

-- a storage of this size in which each byte and each key is zero
abbrev pub cleared : ℕ → Storage
cleared size = record { bytes = replicate size 0; keys = replicate (size / 2048) 0 }

-- whether each of these bytes is in storage; of no bytes, each is
abbrev pub is_inside : Storage → (at count : ℕ) → Bool
is_inside s at count = (count == 0) || nat_le (at + count) (length s.bytes)

-- the key of the block of an address
abbrev pub key_at : Storage → ℕ → ℕ
key_at s at = slice_index s.keys (at / 2048)

-- whether a block with this storage key may be stored into with this key: key 0 stores everywhere
abbrev pub admits : (storage_key key : ℕ) → Bool
admits storage_key key = (key == 0) || (key == storage_key)

-- whether a byte may be stored at an address with this key
abbrev pub may_store : Storage → (key at : ℕ) → Bool
may_store s key at = nat_lt at (length s.bytes) && admits (key_at s at) key

-- a list with these bytes from a place on, as far as the list goes
abbrev pub overwritten : List ℕ → ℕ → List ℕ → List ℕ
overwritten [] at new = []
overwritten (x ∷ xs) zero [] = x ∷ xs
overwritten (x ∷ xs) zero (y ∷ ys) = y ∷ overwritten xs zero ys
overwritten (x ∷ xs) (suc at) new = x ∷ overwritten xs at new

-- storage with these bytes from an address on, as far as it goes
abbrev pub stored : Storage → ℕ → List ℕ → Storage
stored s at bytes = record s { bytes = overwritten s.bytes at bytes }

-- storage with this key for the block of an address
abbrev pub with_key : Storage → (at key : ℕ) → Storage
with_key s at key = record s { keys = slice_set s.keys (at / 2048) key }

-- one change of storage: bytes from an address on, or the key of the block of an address
pub data Change : Type 0 where
  Bytes : (at : ℕ) → List ℕ → Change
  KeyOf : (at key : ℕ) → Change

-- storage behind a change
abbrev pub changed : Change → Storage → Storage
changed (Bytes at bytes) s = stored s at bytes
changed (KeyOf at key) s = with_key s at key

-- whether all that a change sets is in storage
abbrev pub is_within : Change → Storage → Bool
is_within (Bytes at bytes) s = is_inside s at (length bytes)
is_within (KeyOf at key) s = nat_lt at (length s.bytes)

-- The places that the channel knows: the channel address word at 72, the channel status word at 64, its two status
-- bytes at 68.

-- the channel address word
abbrev pub caw_word : Storage → ℕ
caw_word s = big_number 4 (slice_range s.bytes 72 76)

-- the channel command word at an address
abbrev pub ccw_at : Storage → ℕ → Ccw
ccw_at s at = ccw_of (slice_range s.bytes at (at + 8))

-- a channel status word is stored
abbrev pub csw_stored : Csw → Change
csw_stored csw = Bytes 64 (csw_bytes csw)

-- unit status and channel status alone are stored
abbrev pub status_stored : (unit channel : ℕ) → Change
status_stored unit channel = Bytes 68 (unit ∷ channel ∷ [])
