-- The control blocks of formats 2, 3 and 5, by the offsets of their fields in the key and in the data of their record, in bytes.
use Rattle.std.specs.Prelude.{ℕ, ◌==◌, Bool, true, ◌&&◌, List, [], ◌∷◌, slice_index, take, replicate, bytes_eq}
use Rattle.volume_labels.specs.declared.blocks.BlockKind.{BlockKind}
use Rattle.volume_labels.specs.declared.blocks.BlockKind.TheVariants.{Free, DataSet, IndexedSequential, MoreExtents, Contents, FreeSpace, SharedCylinders}
use Rattle.volume_labels.specs.declared.blocks.BlockKind.TheVariants.{Unknown}
use Rattle.volume_labels.specs.declared.extents.IndexesBlock.{IndexesBlock}
use Rattle.volume_labels.specs.declared.extents.ExtentsBlock.{ExtentsBlock}
use Rattle.volume_labels.specs.declared.extents.FreeSpaceBlock.{FreeSpaceBlock}
use Rattle.volume_labels.specs.Fields.{number_at, long_number_at, record_address_at, extent_at, free_tracks_at}

-- format 2: the indexes of an indexed sequential data set
abbrev pub indexes_block_of : List ℕ → IndexesBlock
indexes_block_of bytes = record {
  levels = slice_index bytes 1;
  overflow_tracks = slice_index bytes 8;
  deleted = number_at bytes 15;
  records = long_number_at bytes 23;
  overflow_records = number_at bytes 84;
  next = record_address_at bytes 91;
}

-- format 3: thirteen extents, four in the key and nine in the data
abbrev pub extents_block_of : (key bytes : List ℕ) → ExtentsBlock
extents_block_of key bytes = record {
  extents =
      extent_at key 4 ∷ extent_at key 14 ∷ extent_at key 24 ∷ extent_at key 34
      ∷ extent_at bytes 1 ∷ extent_at bytes 11 ∷ extent_at bytes 21 ∷ extent_at bytes 31 ∷ extent_at bytes 41
      ∷ extent_at bytes 51 ∷ extent_at bytes 61 ∷ extent_at bytes 71 ∷ extent_at bytes 81 ∷ [];
  next = record_address_at bytes 91;
}

-- format 5: twenty-six runs of free tracks, eight in the key and eighteen in the data
abbrev pub free_space_block_of : (key bytes : List ℕ) → FreeSpaceBlock
free_space_block_of key bytes = record {
  free =
      free_tracks_at key 4 ∷ free_tracks_at key 9 ∷ free_tracks_at key 14 ∷ free_tracks_at key 19
      ∷ free_tracks_at key 24 ∷ free_tracks_at key 29 ∷ free_tracks_at key 34 ∷ free_tracks_at key 39
      ∷ free_tracks_at bytes 1 ∷ free_tracks_at bytes 6 ∷ free_tracks_at bytes 11 ∷ free_tracks_at bytes 16
      ∷ free_tracks_at bytes 21 ∷ free_tracks_at bytes 26 ∷ free_tracks_at bytes 31 ∷ free_tracks_at bytes 36
      ∷ free_tracks_at bytes 41 ∷ free_tracks_at bytes 46 ∷ free_tracks_at bytes 51 ∷ free_tracks_at bytes 56
      ∷ free_tracks_at bytes 61 ∷ free_tracks_at bytes 66 ∷ free_tracks_at bytes 71 ∷ free_tracks_at bytes 76
      ∷ free_tracks_at bytes 81 ∷ free_tracks_at bytes 86 ∷ [];
  next = record_address_at bytes 91;
}

-- A key that is no name says which format its block has: format 2 by its first byte, 3 and 5 by the first four, 4 by all of them.
abbrev pub has_key_of : BlockKind → (key : List ℕ) → Bool
has_key_of IndexedSequential key = slice_index key 0 == 2
has_key_of MoreExtents key = bytes_eq (take 4 key) (3 ∷ 3 ∷ 3 ∷ 3 ∷ [])
has_key_of Contents key = bytes_eq key (replicate 44 4)
has_key_of FreeSpace key = bytes_eq (take 4 key) (5 ∷ 5 ∷ 5 ∷ 5 ∷ [])
has_key_of Free key = true
has_key_of DataSet key = true
has_key_of SharedCylinders key = true
has_key_of Unknown key = true
