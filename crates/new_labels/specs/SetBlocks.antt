-- The control blocks of a new data set (IBM System/360 Operating System, System Control Blocks, 'Data Set Control Block'). Offsets are in
-- bytes from 0.
use Rattle.std.specs.Prelude.{ℕ, List, [], ◌∷◌, ◌++◌, drop, replicate, slice_index, slice_range}
use Rattle.volume_labels.specs.declared.fields.TrackAddress.{TrackAddress}
use Rattle.volume_labels.specs.declared.fields.RecordAddress.{RecordAddress}
use Rattle.volume_labels.specs.declared.fields.RelativeAddress.{RelativeAddress}
use Rattle.volume_labels.specs.declared.fields.Extent.{Extent}
use Rattle.volume_labels.specs.declared.fields.Date.{Date}
use Rattle.volume_labels.specs.declared.blocks.DataSetBlock.{DataSetBlock}
use Rattle.volume_labels.specs.declared.blocks.ContentsBlock.{ContentsBlock}
use Rattle.volume_labels.specs.Labels.{contents_block_of}
use Rattle.new_labels.specs.declared.set_blocks.KeptFields.{KeptFields}
use Rattle.new_labels.specs.declared.set_blocks.NewDataSet.{NewDataSet}
use Rattle.new_labels.specs.Records.{two}

-- cylinder and head of a track
abbrev pub address_bytes : TrackAddress → List ℕ
address_bytes t = two t.cylinder ++ two t.head

abbrev pub record_bytes : RecordAddress → List ℕ
record_bytes a = address_bytes a.track ++ a.number ∷ []

abbrev pub extent_bytes : Extent → List ℕ
extent_bytes e = e.kind ∷ e.number ∷ address_bytes e.first ++ address_bytes e.last

-- nowhere, no day, and no extent
abbrev pub nowhere : RecordAddress
nowhere = record { track = record { cylinder = 0; head = 0 }; number = 0 }

abbrev pub no_date : Date
no_date = record { year = 0; day = 0 }

abbrev pub no_extent : Extent
no_extent = record { kind = 0; number = 0; first = record { cylinder = 0; head = 0 }; last = record { cylinder = 0; head = 0 } }

-- What stands at 7: volume 1, at 9 the day on which it is made, at 12 that on which it expires, and one extent.
abbrev pub numbers_bytes : (created expires : Date) → List ℕ
numbers_bytes created expires = 0 ∷ 1 ∷ created.year ∷ two created.day ++ (expires.year ∷ two expires.day ++ (1 ∷ []))

-- at 38: the organisation, the record format and the option code
abbrev pub form_bytes : (organisation format options : ℕ) → List ℕ
form_bytes organisation format options = two organisation ++ (format ∷ options ∷ [])

-- at 42: the lengths of a block, of a record and, at 46, of a key
abbrev pub length_bytes : (block size key : ℕ) → List ℕ
length_bytes block size key = two block ++ (two size ++ (key ∷ []))

-- at 54: the last block, and what its track has left
abbrev pub last_bytes : RelativeAddress → (balance : ℕ) → List ℕ
last_bytes last balance = two last.track ++ (last.number ∷ two balance)

-- What a new data set has of these: blanks at 18 for the system that made it; no option; no place of a key in its records; at 49 that this is
-- the last volume of the data set, and that it gets no more tracks where these are full.
abbrev pub new_fields : KeptFields
new_fields = record {
  system = replicate 13 0x40 ++ replicate 7 0;
  options = 0;
  allocation = 0 ∷ 0 ∷ 0x80 ∷ 0x80 ∷ replicate 3 0;
}

-- those of a block of format 1
abbrev pub fields_of : (bytes : List ℕ) → KeptFields
fields_of bytes = record {
  system = slice_range bytes 18 38;
  options = slice_index bytes 41;
  allocation = slice_range bytes 47 54;
}

-- Format 1: the serial number at 1; the fields that are kept at 18, 41 and 47; the extent at 61; no second and third one, and no further block.
abbrev pub data_set_data : NewDataSet → List ℕ
data_set_data s =
    0xF1 ∷ s.serial ++ (numbers_bytes s.created s.expires ++ (0 ∷ 0 ∷ s.kept.system
    ++ (form_bytes s.organisation s.format s.kept.options ++ (length_bytes s.block_length s.record_length s.key_length
    ++ (s.kept.allocation ++ (last_bytes s.last s.balance ++ (0 ∷ 0 ∷ extent_bytes s.extent ++ replicate 25 0)))))))

-- what a reader of the block has, whose key is the name
abbrev pub data_set_read : NewDataSet → DataSetBlock
data_set_read s = record {
  name = s.name;
  serial = s.serial;
  volume = 1;
  created = s.created;
  expires = s.expires;
  extents = 1;
  organisation = s.organisation;
  format = s.format;
  block_length = s.block_length;
  record_length = s.record_length;
  key_length = s.key_length;
  indicators = slice_index s.kept.allocation 2;
  last = s.last;
  balance = s.balance;
  first_extent = s.extent;
  second_extent = no_extent;
  third_extent = no_extent;
  next = nowhere;
}

-- Format 4 with another last block of format 1 and another number of free blocks, and all else as it was.
abbrev pub updated_contents : (bytes : List ℕ) → (last : RecordAddress) → (free : ℕ) → List ℕ
updated_contents bytes last free = 0xF4 ∷ record_bytes last ++ (two free ++ drop 8 bytes)

-- what a reader of it has
abbrev pub updated_read : (bytes : List ℕ) → (last : RecordAddress) → (free : ℕ) → ContentsBlock
updated_read bytes last free = record { last_data_set = last; free_blocks = free; extent = (contents_block_of bytes).extent }
