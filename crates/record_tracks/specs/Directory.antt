-- The blocks of a directory: each has as many entries as it has room for (System Control Blocks, 'Partitioned Data Set Directory').
use Rattle.std.specs.Prelude.{◌≡◌, ◌≢◌, ℕ, zero, suc, ◌+◌, ◌-◌, ◌/◌, ◌%◌, nat_le}
use Rattle.std.specs.Prelude.{if◌then◌else◌, List, [], ◌∷◌, ◌++◌, length, take, drop, replicate, slice_index_or}
use Rattle.std.specs.Prelude.{flat_map}
use Rattle.std.specs.List.{concat}
use Rattle.record_tracks.specs.Filled.{filled}

-- How many of these entries go into a block, so many of whose 256 bytes are used: none is cut by the end of the block.
unfoldable pub going_in : (used : ℕ) → (entries : List (List ℕ)) → ℕ
going_in used [] = 0
going_in used (e ∷ others) = if nat_le (used + length e) 256 then suc (going_in (used + length e) others) else 0

-- the entries of a block behind the two bytes that say how many of its bytes are used
abbrev pub in_block : (entries : List (List ℕ)) → List (List ℕ)
in_block entries = take (going_in 2 entries) entries

-- the entries that are left behind a block, and behind so many blocks
abbrev pub behind_block : (entries : List (List ℕ)) → List (List ℕ)
behind_block entries = drop (going_in 2 entries) entries

unfoldable pub left_behind : (entries : List (List ℕ)) → (blocks : ℕ) → List (List ℕ)
left_behind entries zero = entries
left_behind entries (suc n) = left_behind (behind_block entries) n

-- so many blocks are the fewest that have all of the entries
pub record Takes (entries : List (List ℕ)) (blocks : ℕ) : Type 0 where
  pub all : left_behind entries blocks ≡ []
  pub fewest : (n : ℕ) → suc n ≡ blocks → left_behind entries n ≢ []

-- how many bytes of a block with these entries are used, the two that say so among them
abbrev pub used_by : (entries : List (List ℕ)) → ℕ
used_by entries = 2 + length (concat entries)

-- the key of a block with these entries: the name of the last of them
abbrev pub key_of : (entries : List (List ℕ)) → List ℕ
key_of entries = take 8 (slice_index_or entries (length entries - 1) [])

-- what a block with these entries begins with: its key, the number of its used bytes, and the entries
abbrev pub block_front : (entries : List (List ℕ)) → List ℕ
block_front entries = key_of entries ++ (used_by entries / 256 ∷ used_by entries % 256 ∷ concat entries)

-- A block that begins with the first of these entries: a key of 8 bytes and 256 bytes of data. One for which none is left is all zeros.
abbrev pub block_of : (left : List (List ℕ)) → List ℕ
block_of [] = replicate 264 0
block_of (e ∷ others) = filled 264 (block_front (in_block (e ∷ others)))

-- so many blocks for these entries
unfoldable pub blocks_of : (entries : List (List ℕ)) → (blocks : ℕ) → List (List ℕ)
blocks_of entries zero = []
blocks_of entries (suc n) = block_of entries ∷ blocks_of (behind_block entries) n

-- and their data alone, without their keys: what a reader of the directory has
abbrev pub data_of : (blocks : List (List ℕ)) → List ℕ
data_of blocks = flat_map (drop 8) blocks
