-- Slots that are written from their beginning on, with zeros behind what was written.
use Rattle.std.specs.Prelude.{ℕ, ◌-◌, ◌/◌, ◌%◌, List, [], ◌∷◌, ◌++◌, flat_map, replicate}
use Rattle.ckd_track.specs.declared.geometries.Geometry.{Geometry}
use Rattle.ckd_track.specs.Track.{record_bytes}
use Rattle.record_tracks.specs.Records.{Areas}
use Rattle.record_tracks.specs.Tracks.{track_bytes, records_with, record_with}

-- the eight bytes of a count area
abbrev pub count_area_of : (track : List ℕ) → (number : ℕ) → (key bytes : ℕ) → List ℕ
count_area_of track number key bytes = (track ++ number ∷ []) ++ key ∷ bytes / 256 ∷ bytes % 256 ∷ []

-- what a track begins with: its home address and record 0, which has no key and eight zeros
abbrev pub track_front : Geometry → (n : ℕ) → List ℕ
track_front g n = (0 ∷ track_bytes g n) ++ record_bytes (record_with (track_bytes g n) 0 (record { key_area = []; data_area = replicate 8 0 }))

-- the bytes of a track with these records, up to its end mark
abbrev pub records_front : Geometry → (n : ℕ) → (areas : List Areas) → List ℕ
records_front g n areas = track_front g n ++ flat_map record_bytes (records_with (track_bytes g n) 1 areas)
