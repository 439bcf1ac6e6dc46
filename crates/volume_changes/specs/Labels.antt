-- The volume label and the serial numbers of data sets, as they are changed.
use Rattle.std.specs.Prelude.{ℕ, Bool, ◌&&◌, if◌then◌else◌, List, [], ◌∷◌, ◌++◌, length, replicate, slice_range, bytes_eq, Option, Some, None, Result}
use Rattle.ckd_track.specs.declared.fault.SlotFault.{SlotFault}
use Rattle.ckd_track.specs.Changes.{overwritten, with_data}
use Rattle.ckd_track.specs.Track.{Track, track_of, track_in, record_in, slot_of}
use Rattle.volume_labels.specs.declared.labels.VolumeLabel.{VolumeLabel}
use Rattle.volume_contents.specs.declared.blocks.Block.{Block}
use Rattle.volume_contents.specs.Contents.{label_in}
use Rattle.volume_contents.specs.Sets.{is_data_set}
use Rattle.volume_changes.specs.declared.blocks.BlockChange.{BlockChange}
use Rattle.volume_changes.specs.declared.labels.LabelFields.{LabelFields}

-- the data of a volume label with this serial number at 4, where one is given
abbrev pub with_serial : Option (List ℕ) → (bytes : List ℕ) → List ℕ
with_serial None bytes = bytes
with_serial (Some serial) bytes = overwritten bytes 4 serial

-- the same with this owner, where one is given: in the last ten bytes of his field at 37, with blanks before them
abbrev pub with_owner : Option (List ℕ) → (bytes : List ℕ) → List ℕ
with_owner None bytes = bytes
with_owner (Some owner) bytes = overwritten bytes 37 (replicate 4 0x40 ++ owner)

abbrev pub with_fields : LabelFields → (bytes : List ℕ) → List ℕ
with_fields f bytes = with_owner f.owner (with_serial f.serial bytes)

-- The slot of the volume's first track, on which the label is record 3, with other fields in it; without a label it stays.
abbrev pub slot_with_fields : LabelFields → (slot : List ℕ) → Option VolumeLabel → List ℕ
slot_with_fields f slot None = slot
slot_with_fields f slot (Some l) =
    slot_of (length slot) (with_data 3 (with_fields f (record_in (track_in slot) 3).data_area) (track_in slot))

abbrev pub relabelled_slot : LabelFields → (slot : List ℕ) → List ℕ
relabelled_slot f slot = slot_with_fields f slot (label_in (track_of slot))

-- a format 1 block says that the data set began on the volume of this serial number
abbrev pub has_serial : (serial : List ℕ) → Block → Bool
has_serial serial b = is_data_set b.kind && bytes_eq (slice_range b.bytes 1 7) serial

-- such a block gets the new serial number; another one is not changed
abbrev pub serial_change : (old new : List ℕ) → Block → Option BlockChange
serial_change old new b =
    if has_serial old b then Some (record { block = b; key = b.key; bytes = overwritten b.bytes 1 new }) else None
