-- The volume label and the data set control blocks, by the offsets of their fields in the data area of their record, in bytes.
use Rattle.std.specs.Prelude.{ℕ, ◌+◌, ◌==◌, Bool, ◌&&◌, nat_le, if◌then◌else◌, List, length, slice_index, slice_range, bytes_eq, [], ◌∷◌, Option, Some, None}
use Rattle.volume_labels.specs.declared.labels.VolumeLabel.{VolumeLabel}
use Rattle.volume_labels.specs.declared.blocks.BlockKind.{BlockKind}
use Rattle.volume_labels.specs.declared.blocks.BlockKind.TheVariants.{Free, DataSet, IndexedSequential, MoreExtents, Contents, FreeSpace, SharedCylinders}
use Rattle.volume_labels.specs.declared.blocks.BlockKind.TheVariants.{Unknown}
use Rattle.volume_labels.specs.declared.blocks.DataSetBlock.{DataSetBlock}
use Rattle.volume_labels.specs.declared.blocks.ContentsBlock.{ContentsBlock}
use Rattle.volume_labels.specs.Fields.{number_at, record_address_at, relative_address_at, extent_at, date_at}

-- VOL1 in EBCDIC
abbrev pub volume_label_name : List ℕ
volume_label_name = 0xE5 ∷ 0xD6 ∷ 0xD3 ∷ 0xF1 ∷ []

-- The volume label takes 80 bytes and begins with VOL1: the serial number at 4, the address of the volume table of contents at 11,
-- the owner's name at 37, of which OS/360 uses the last ten bytes.
abbrev pub volume_label_of : List ℕ → Option VolumeLabel
volume_label_of bytes =
    if nat_le 80 (length bytes) && bytes_eq (slice_range bytes 0 4) volume_label_name
    then Some (record { serial = slice_range bytes 4 10; contents = record_address_at bytes 11; owner = slice_range bytes 37 51 })
    else None

-- A control block has a key of 44 bytes and 96 bytes of data, the first of which is its format in EBCDIC, or zero where it is free.
abbrev pub kind_of_format : ℕ → BlockKind
kind_of_format format =
    if format == 0 then Free
    else (if format == 0xF1 then DataSet
    else (if format == 0xF2 then IndexedSequential
    else (if format == 0xF3 then MoreExtents
    else (if format == 0xF4 then Contents
    else (if format == 0xF5 then FreeSpace
    else (if format == 0xF6 then SharedCylinders
    else Unknown))))))

abbrev pub block_kind_of : (key bytes : List ℕ) → Option BlockKind
block_kind_of key bytes =
    if (length key == 44) && (length bytes == 96) then Some (kind_of_format (slice_index bytes 0)) else None

-- format 1: a data set
abbrev pub data_set_block_of : (key bytes : List ℕ) → DataSetBlock
data_set_block_of key bytes = record {
  name = key;
  serial = slice_range bytes 1 7;
  volume = number_at bytes 7;
  created = date_at bytes 9;
  expires = date_at bytes 12;
  extents = slice_index bytes 15;
  organisation = number_at bytes 38;
  format = slice_index bytes 40;
  block_length = number_at bytes 42;
  record_length = number_at bytes 44;
  key_length = slice_index bytes 46;
  indicators = slice_index bytes 49;
  last = relative_address_at bytes 54;
  balance = number_at bytes 57;
  first_extent = extent_at bytes 61;
  second_extent = extent_at bytes 71;
  third_extent = extent_at bytes 81;
  next = record_address_at bytes 91;
}

-- format 4: the volume table of contents itself
abbrev pub contents_block_of : List ℕ → ContentsBlock
contents_block_of bytes = record {
  last_data_set = record_address_at bytes 1;
  free_blocks = number_at bytes 6;
  extent = extent_at bytes 61;
}
