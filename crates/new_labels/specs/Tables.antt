-- The free control blocks of a table of contents.
use Rattle.std.specs.Prelude.{◌≡◌, ℕ, ◌<◌, Bool, true, false, length, drop, Option, Some, None, Result, Ok, Err}
use Rattle.std.specs.List.{position_from}
use Rattle.ckd_track.specs.declared.fault.SlotFault.{SlotFault}
use Rattle.ckd_track.specs.Track.{Record, Track, record_in}
use Rattle.volume_labels.specs.declared.blocks.BlockKind.{BlockKind}
use Rattle.volume_labels.specs.declared.blocks.BlockKind.TheVariants.{Free, DataSet, IndexedSequential, MoreExtents, Contents, FreeSpace, SharedCylinders}
use Rattle.volume_labels.specs.declared.blocks.BlockKind.TheVariants.{Unknown}
use Rattle.volume_labels.specs.Labels.{block_kind_of}

abbrev pub is_free_kind : Option BlockKind → Bool
is_free_kind (Some Free) = true
is_free_kind (Some DataSet) = false
is_free_kind (Some IndexedSequential) = false
is_free_kind (Some MoreExtents) = false
is_free_kind (Some Contents) = false
is_free_kind (Some FreeSpace) = false
is_free_kind (Some SharedCylinders) = false
is_free_kind (Some Unknown) = false
is_free_kind None = false

-- a record is a control block that is free, as the reader of a table tells it
abbrev pub is_free_block : Record → Bool
is_free_block r = is_free_kind (block_kind_of r.key_area r.data_area)

-- the first free one of a track, behind record 0
abbrev pub free_place : Result Track SlotFault → Option ℕ
free_place (Err fault) = None
free_place (Ok t) = position_from is_free_block 1 (drop 1 t.records)

-- a record of the track that is one
pub record IsFreePlace (t : Track) (i : ℕ) : Type 0 where
  pub there : i < length t.records
  pub key : length (record_in t i).key_area ≡ 44
  pub bytes : length (record_in t i).data_area ≡ 96
