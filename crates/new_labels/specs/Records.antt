-- What stands in the records of a new label and of an empty table of contents (IBM System/360 Operating System, System Control Blocks,
-- 'Volume Label' and 'Data Set Control Block'). Offsets are in bytes from 0.
use Rattle.std.specs.Prelude.{ℕ, ◌+◌, ◌-◌, ◌*◌, ◌/◌, ◌%◌, ◌==◌, if◌then◌else◌, List, [], ◌∷◌, ◌++◌, replicate, flat_map}
use Rattle.ckd_track.specs.declared.model.DriveModel.{DriveModel}
use Rattle.ckd_track.specs.declared.model.DriveModel.TheVariants.{D2311, D2314}
use Rattle.ckd_track.specs.declared.geometries.Geometry.{Geometry}
use Rattle.ckd_track.specs.Model.{heads_of}
use Rattle.ckd_track.specs.Geometry.{tracks_of}
use Rattle.ckd_track.specs.NewVolume.{address}
use Rattle.volume_labels.specs.declared.fields.TrackAddress.{TrackAddress}
use Rattle.volume_labels.specs.declared.fields.FreeTracks.{FreeTracks}
use Rattle.volume_labels.specs.declared.labels.VolumeLabel.{VolumeLabel}
use Rattle.volume_labels.specs.declared.blocks.ContentsBlock.{ContentsBlock}
use Rattle.volume_labels.specs.declared.extents.FreeSpaceBlock.{FreeSpaceBlock}
use Rattle.volume_labels.specs.Labels.{volume_label_name}
use Rattle.new_labels.specs.declared.labels.NewLabel.{NewLabel}
use Rattle.new_labels.specs.Labels.{table_end, free_blocks}

-- a number in two bytes, the high byte first
abbrev pub two : ℕ → List ℕ
two n = n / 256 ∷ n % 256 ∷ []

-- the cylinder and the head of a track, by its number on the volume
abbrev pub track_bytes : Geometry → ℕ → List ℕ
track_bytes g n = address (n / heads_of g.model) (n % heads_of g.model)

-- the identifier of the record of this number on a track
abbrev pub record_id : Geometry → (track number : ℕ) → List ℕ
record_id g track number = track_bytes g track ++ number ∷ []

-- the same as a reader has it
abbrev pub track_address : Geometry → ℕ → TrackAddress
track_address g n = record { cylinder = n / heads_of g.model; head = n % heads_of g.model }

-- IPL1: a program status word that waits, disabled, with the code 00000F; a no-operation with which the loading ends; and no third word
abbrev pub loader_data : List ℕ
loader_data = 0 ∷ 6 ∷ 0 ∷ 0 ∷ 0 ∷ 0 ∷ 0 ∷ 0x0F ∷ 3 ∷ 0 ∷ 0 ∷ 0 ∷ 0 ∷ 0 ∷ 0 ∷ 1 ∷ replicate 8 0

-- VOL1: the serial number at 4, where the table's first block is at 11, the owner in the last ten bytes of his field at 41, else blanks
abbrev pub volume_data : Geometry → NewLabel → List ℕ
volume_data g l =
    volume_label_name ++ (l.serial ++ (0x40 ∷ record_id g l.first 1 ++ (replicate 25 0x40 ++ (l.owner ++ replicate 29 0x40))))

-- what a reader of that label has
abbrev pub volume_label_read : Geometry → NewLabel → VolumeLabel
volume_label_read g l = record {
  serial = l.serial;
  contents = record { track = track_address g l.first; number = 1 };
  owner = replicate 4 0x40 ++ l.owner;
}

-- A drive's characteristics: the bytes of a track; what a record with a key takes beside its bytes, where others follow it, and as the
-- last one; how much less one without a key takes; a flag; what a byte takes, in parts of 512; the control blocks and the blocks of a
-- directory that a track has room for.
abbrev pub characteristics : DriveModel → List ℕ
characteristics D2311 = 0x0E ∷ 0x29 ∷ 81 ∷ 20 ∷ 20 ∷ 1 ∷ 0x02 ∷ 0x19 ∷ 16 ∷ 10 ∷ []
characteristics D2314 = 0x1C ∷ 0x7E ∷ 146 ∷ 45 ∷ 45 ∷ 1 ∷ 0x02 ∷ 0x16 ∷ 25 ∷ 17 ∷ []

-- the extent of the table: tracks, the first extent, from its first track to its last
abbrev pub table_extent : Geometry → NewLabel → List ℕ
table_extent g l = 1 ∷ 0 ∷ track_bytes g l.first ++ track_bytes g (table_end l - 1)

-- what the block of format 4 begins with: no block of a data set, the free blocks, no alternate track, no indicator, and one extent
abbrev pub contents_head : Geometry → NewLabel → List ℕ
contents_head g l = 0xF4 ∷ replicate 5 0 ++ (two (free_blocks g l) ++ (replicate 7 0 ++ 1 ∷ 0 ∷ 0 ∷ []))

-- the drive: its cylinders and heads, and its characteristics
abbrev pub drive_bytes : Geometry → List ℕ
drive_bytes g = two g.cylinders ++ (two (heads_of g.model) ++ characteristics g.model)

-- Format 4: the drive stands at 18, and the table's extent at 61.
abbrev pub contents_data : Geometry → NewLabel → List ℕ
contents_data g l = contents_head g l ++ (drive_bytes g ++ (replicate 29 0 ++ (table_extent g l ++ replicate 25 0)))

-- what a reader of that block has
abbrev pub contents_read : Geometry → NewLabel → ContentsBlock
contents_read g l = record {
  last_data_set = record { track = record { cylinder = 0; head = 0 }; number = 0 };
  free_blocks = free_blocks g l;
  extent = record { kind = 1; number = 0; first = track_address g l.first; last = track_address g (table_end l - 1) };
}

-- no free tracks
abbrev pub no_piece : FreeTracks
no_piece = record { first = 0; cylinders = 0; tracks = 0 }

-- so many free tracks from this one on
abbrev pub piece : Geometry → (from count : ℕ) → FreeTracks
piece g from count = if count == 0 then no_piece else record { first = from; cylinders = count / heads_of g.model; tracks = count % heads_of g.model }

-- The free tracks: those between the label and the table, where there are any, and those behind the table.
abbrev pub free_pieces : Geometry → NewLabel → List FreeTracks
free_pieces g l =
    let behind = piece g (table_end l) (tracks_of g - table_end l) in
    if l.first == 1 then behind ∷ no_piece ∷ [] else piece g 1 (l.first - 1) ∷ behind ∷ []

-- how many tracks a piece has
abbrev pub tracks_in : Geometry → FreeTracks → ℕ
tracks_in g f = f.cylinders * heads_of g.model + f.tracks

-- a piece in its five bytes
abbrev pub piece_bytes : FreeTracks → List ℕ
piece_bytes f = two f.first ++ (two f.cylinders ++ f.tracks ∷ [])

-- Format 5: the key says the format, and has room for eight pieces; the data has none.
abbrev pub free_space_key : Geometry → NewLabel → List ℕ
free_space_key g l = replicate 4 5 ++ (flat_map piece_bytes (free_pieces g l) ++ replicate 30 0)

abbrev pub free_space_data : List ℕ
free_space_data = 0xF5 ∷ replicate 95 0

-- what a reader of that block has
abbrev pub free_space_read : Geometry → NewLabel → FreeSpaceBlock
free_space_read g l = record {
  free = free_pieces g l ++ replicate 24 no_piece;
  next = record { track = record { cylinder = 0; head = 0 }; number = 0 };
}
