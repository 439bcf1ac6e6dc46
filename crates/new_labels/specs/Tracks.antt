-- The tracks of a new volume with a label, and the slots that spell them.
use Rattle.std.specs.Prelude.{◌≡◌, ℕ, ◌+◌, ◌-◌, ◌*◌, ◌/◌, ◌%◌, ◌==◌, Bool, ◌&&◌, nat_le, nat_lt, if◌then◌else◌, List, [], ◌∷◌, ◌++◌, length, map, replicate, flat_map}
use Rattle.std.specs.List.{range_with_len}
use Rattle.ckd_track.specs.declared.geometries.Geometry.{Geometry}
use Rattle.ckd_track.specs.Model.{heads_of}
use Rattle.ckd_track.specs.Geometry.{tracks_of}
use Rattle.ckd_track.specs.Track.{Record, Track, record_bytes, slot_of}
use Rattle.ckd_track.specs.NewVolume.{new_track}
use Rattle.new_labels.specs.declared.labels.NewLabel.{NewLabel}
use Rattle.new_labels.specs.Labels.{blocks_on, table_end}
use Rattle.new_labels.specs.Records.{track_bytes, loader_data, volume_data, contents_data, free_space_key, free_space_data}

-- a record with this identifier, key and data
abbrev pub with_id : (id key bytes : List ℕ) → Record
with_id id key bytes = record { id = id; key_area = key; data_area = bytes }

-- a record of this number on a track
abbrev pub numbered : (track : List ℕ) → (number : ℕ) → (key bytes : List ℕ) → Record
numbered track number key bytes = with_id (track ++ number ∷ []) key bytes

-- record 0: no key, and eight zeros
abbrev pub first_record : (track : List ℕ) → Record
first_record track = numbered track 0 [] (replicate 8 0)

-- the keys of the label's track, in EBCDIC: IPL1, IPL2 and VOL1
abbrev pub first_loader_key : List ℕ
first_loader_key = 0xC9 ∷ 0xD7 ∷ 0xD3 ∷ 0xF1 ∷ []

abbrev pub second_loader_key : List ℕ
second_loader_key = 0xC9 ∷ 0xD7 ∷ 0xD3 ∷ 0xF2 ∷ []

abbrev pub label_key : List ℕ
label_key = 0xE5 ∷ 0xD6 ∷ 0xD3 ∷ 0xF1 ∷ []

-- the first track of the volume: the loader's records, the second of them with nothing to load, and the volume label
abbrev pub label_track : Geometry → NewLabel → Track
label_track g l =
    let track = track_bytes g 0 in record {
      home_address = 0 ∷ track;
      records = first_record track
          ∷ numbered track 1 first_loader_key loader_data
          ∷ numbered track 2 second_loader_key (replicate 144 0)
          ∷ numbered track 3 label_key (volume_data g l) ∷ [];
    }

-- The blocks of the table, counted from 0 on over all its tracks: its own of format 4, that of the free tracks of format 5, and free ones.
abbrev pub block_key : Geometry → NewLabel → ℕ → List ℕ
block_key g l block =
    if block == 0 then replicate 44 4
    else (if block == 1 then free_space_key g l
    else replicate 44 0)

abbrev pub block_data : Geometry → NewLabel → ℕ → List ℕ
block_data g l block =
    if block == 0 then contents_data g l
    else (if block == 1 then free_space_data
    else replicate 96 0)

-- the block in the record of this number on this track of the volume
abbrev pub block_at : Geometry → NewLabel → (track number : ℕ) → ℕ
block_at g l track number = (track - l.first) * blocks_on g.model + (number - 1)

abbrev pub block_record : Geometry → NewLabel → (track number : ℕ) → Record
block_record g l track number =
    numbered (track_bytes g track) number (block_key g l (block_at g l track number)) (block_data g l (block_at g l track number))

-- a track of the table: as many blocks as it has room for
abbrev pub table_track : Geometry → NewLabel → (track : ℕ) → Track
table_track g l track = record {
  home_address = 0 ∷ track_bytes g track;
  records = first_record (track_bytes g track) ∷ map (block_record g l track) (range_with_len 1 (blocks_on g.model));
}

-- the table has this track
abbrev pub is_in_table : NewLabel → (track : ℕ) → Bool
is_in_table l track = nat_le l.first track && nat_lt track (table_end l)

-- a track of the volume: that of the label, one of the table, or one as a new volume without a label has it
abbrev pub labelled_track : Geometry → NewLabel → (track : ℕ) → Track
labelled_track g l track =
    if track == 0 then label_track g l
    else (if is_in_table l track then table_track g l track
    else new_track (track / heads_of g.model) (track % heads_of g.model))

-- the slot of a track, and those of all, in order
abbrev pub labelled_slot : Geometry → NewLabel → (track : ℕ) → List ℕ
labelled_slot g l track = slot_of g.track_size (labelled_track g l track)

abbrev pub labelled_slots : Geometry → NewLabel → List (List ℕ)
labelled_slots g l = map (labelled_slot g l) (range_with_len 0 (tracks_of g))

-- Slots that are being written.

-- a slot of this size that begins with these bytes, with zeros behind them
abbrev pub filled : (size : ℕ) → List ℕ → List ℕ
filled size bytes = bytes ++ replicate (size - length bytes) 0

-- Where a slot begins with so many bytes and has zeros behind them, these bytes are put behind those, whatever they are.
abbrev pub PutBehind : (at : ℕ) → (bytes before now : List ℕ) → Type 0
PutBehind at bytes before now =
    (front : List ℕ) → length front ≡ at → before ≡ filled (length before) front → now ≡ filled (length before) (front ++ bytes)

-- what a track begins with: its home address and record 0
abbrev pub track_front : (track : List ℕ) → List ℕ
track_front track = (0 ∷ track) ++ record_bytes (first_record track)

-- the bytes of a table's track with so many of its blocks
abbrev pub table_front : Geometry → NewLabel → (track count : ℕ) → List ℕ
table_front g l track count = track_front (track_bytes g track) ++ flat_map record_bytes (map (block_record g l track) (range_with_len 1 count))
