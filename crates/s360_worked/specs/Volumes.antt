-- Two small volumes of a 2311, with slots that are shorter than an image's: the definitions take any track size.
use Rattle.std.specs.Prelude.{ℕ, List, [], ◌∷◌, ◌++◌, map, replicate}
use Rattle.ckd_track.specs.Track.{Record, Track, slot_of}
use Rattle.ckd_track.specs.declared.model.DriveModel.TheVariants.{D2311}
use Rattle.ckd_track.specs.NewVolume.{address, new_track, new_slots}
use Rattle.ckd_track.specs.declared.geometries.Geometry.{Geometry}
use Rattle.ckd_command.specs.Drive.{IdleDrive, no_sense}

-- the bytes of a slot
abbrev pub track_size : ℕ
track_size = 320

-- a volume of so many cylinders
abbrev pub geometry_of : (cylinders : ℕ) → Geometry
geometry_of cylinders = record { model = D2311; cylinders = cylinders; track_size = track_size }

-- a drive at cylinder 0 and head 0, over these slots
abbrev pub drive_with : (cylinders : ℕ) → List (List ℕ) → IdleDrive
drive_with cylinders slots = record {
  volume = record { geometry = geometry_of cylinders; slots = slots };
  cylinder = 0;
  head = 0;
  sense = no_sense;
}

-- a record without a key, with the id of its track
abbrev pub record_of : (cylinder head number : ℕ) → (contents : List ℕ) → Record
record_of cylinder head number contents =
    record { id = address cylinder head ++ number ∷ []; key_area = []; data_area = contents }

-- a new track with these records behind R0
abbrev pub track_with : (cylinder head : ℕ) → List Record → Track
track_with cylinder head records =
    record (new_track cylinder head) { records = (new_track cylinder head).records ++ records }

-- One new cylinder.

-- a drive with one new cylinder
abbrev pub new_drive : IdleDrive
new_drive = drive_with 1 (new_slots (geometry_of 1))

-- Two cylinders. Cylinder 0 has three records of 80 bytes at head 0, one without data at head 1, and at heads 2 and 3 one whose
-- data begins with a channel command word; all else is new.

-- its track at head 0, with these bytes in record 1
abbrev pub first_track : (contents : List ℕ) → Track
first_track contents =
    track_with 0 0 (record_of 0 0 1 contents ∷ record_of 0 0 2 (replicate 80 0xC2) ∷ record_of 0 0 3 (replicate 80 0xC3) ∷ [])

-- the tracks with records, at heads 0 to 3 of cylinder 0
abbrev pub written_tracks : List Track
written_tracks =
    first_track (replicate 80 0xC1)
    ∷ track_with 0 1 (record_of 0 1 1 [] ∷ [])
    ∷ track_with 0 2 (record_of 0 2 1 (0x04 ∷ 0x00 ∷ 0x06 ∷ 0x00 ∷ 0x00 ∷ 0x00 ∷ 0x00 ∷ 0x06 ∷ []) ∷ [])
    ∷ track_with 0 3 (record_of 0 3 1 (0x00 ∷ 0x00 ∷ 0x06 ∷ 0x00 ∷ 0x00 ∷ 0x00 ∷ 0x00 ∷ 0x08 ∷ replicate 8 0xE1) ∷ [])
    ∷ []

-- the tracks with R0 alone, behind them
abbrev pub new_tracks : List Track
new_tracks =
    map (new_track 0) (4 ∷ 5 ∷ 6 ∷ 7 ∷ 8 ∷ 9 ∷ [])
    ++ map (new_track 1) (0 ∷ 1 ∷ 2 ∷ 3 ∷ 4 ∷ 5 ∷ 6 ∷ 7 ∷ 8 ∷ 9 ∷ [])

-- a drive over all of them
abbrev pub written_drive : IdleDrive
written_drive = drive_with 2 (map (slot_of track_size) (written_tracks ++ new_tracks))
