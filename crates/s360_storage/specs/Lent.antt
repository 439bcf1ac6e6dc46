-- Main storage whose bytes and keys another program keeps, and lends.
use Rattle.std.specs.Prelude.{◌≡◌, ℕ, ◌/◌, length, List, true}
use Rattle.s360_words.specs.Storage.{Storage, is_size}

-- the storage that lent bytes and keys are
abbrev pub lent : (bytes keys : List ℕ) → Storage
lent bytes keys = record { bytes = bytes; keys = keys }

-- a storage that can be: of a size that storages have, with one key for each block of 2,048 bytes
pub record IsStorage (s : Storage) : Type 0 where
  pub size : is_size (length s.bytes) ≡ true
  pub keys : length s.keys ≡ length s.bytes / 2048
