-- What is read of records that were put on tracks, by the definitions of the reader.
use Rattle.std.specs.Prelude.{◌≡◌, ℕ, ◌+◌, ◌≤◌, ◌<◌, ◌⊎◌, List, slice_index_or, [], ◌∷◌, ◌++◌, length, flat_map, All, Some}
use Rattle.ckd_track.specs.declared.model.DriveModel.{DriveModel}
use Rattle.ckd_track.specs.declared.geometries.Geometry.{Geometry}
use Rattle.ckd_track.specs.Model.{heads_of}
use Rattle.ckd_track.specs.Geometry.{tracks_of}
use Rattle.volume_labels.specs.declared.fields.Extent.{Extent}
use Rattle.volume_labels.specs.declared.addresses.TrackPlace.{TrackPlace}
use Rattle.volume_labels.specs.declared.addresses.TrackPlace.TheVariants as place
use Rattle.volume_labels.specs.Addresses as addresses
use Rattle.dasd_extract.specs.declared.stops.Cause.TheVariants.{EndOfFile}
use Rattle.dasd_extract.specs.declared.blocks.ExtractedForm.{ExtractedForm}
use Rattle.dasd_extract.specs.declared.blocks.ExtractedForm.TheVariants as form
use Rattle.dasd_extract.specs.Written.{Written, these_bytes, stop_at}
use Rattle.dasd_extract.specs.Blocks.{form_written, keyed_bytes}
use Rattle.dasd_extract.specs.Walk.{wanted, source_written}
use Rattle.record_tracks.specs.Records.{Areas, end_of_file}
use Rattle.record_tracks.specs.Tracks.{left_behind, loaded_slot, record_with, StandsAt}

-- the volume has this track, with as many as go on it of the records that are left
abbrev pub IsLoadedAt : Geometry → (slots : List (List ℕ)) → (left : List Areas) → TrackPlace → Type 0
IsLoadedAt g slots left (place.Track n) = (n < tracks_of g) × (slice_index_or slots n [] ≡ loaded_slot g n left)
IsLoadedAt g slots left place.PastEnd = ⊥
IsLoadedAt g slots left place.BadExtent = ⊥

-- The first tracks of the extents, as many as that, have these records: each what is left behind those before it.
abbrev pub IsLoaded : Geometry → List Extent → (slots : List (List ℕ)) → (areas : List Areas) → (tracks : ℕ) → Type 0
IsLoaded g extents slots areas tracks =
    (i : ℕ) → i < tracks → IsLoadedAt g slots (left_behind g.model areas i) (addresses.track_of (heads_of g.model) extents i)

-- A record that has data, so that it is no end of file, and of which the reader writes this text, wherever it stands, and goes on behind it.
pub record IsWrittenAs (form : ExtractedForm) (text : Areas → List ℕ) (a : Areas) : Type 0 where
  pub some : 1 ≤ length a.data_area
  pub written : (track number : ℕ) (id : List ℕ) → form_written form track (record_with id number a) ≡ these_bytes (text a)

-- A record with its lengths and its key, as the reader writes it where these are kept. Where it stands is not told.
abbrev pub keyed_text : Areas → List ℕ
keyed_text a = keyed_bytes (record_with [] 0 a)

-- A record of which the reader writes the data as they stand: any that has some, and as a block of a directory one with a key of 8 bytes
-- and 256 bytes of data.
abbrev pub IsWritten : ExtractedForm → Areas → Type 0
IsWritten form.Raw a = 1 ≤ length a.data_area
IsWritten form.Directory a = (length a.key_area ≡ 8) × (length a.data_area ≡ 256)
IsWritten (form.Text l) a = ⊥
IsWritten form.Keyed a = ⊥

-- all data of records, one behind another
abbrev pub data_of : List Areas → List ℕ
data_of areas = flat_map (λ a. a.data_area) areas

-- these bytes are written, and then an end of file on this track
abbrev pub ended_by_file : (bytes : List ℕ) → (last : ℕ) → Written
ended_by_file bytes last = record { bytes = bytes; stop = Some (stop_at last EndOfFile) }

-- Some of the records, with others before them, and an end of file and others behind them.
pub record IsPart (areas part : List Areas) (first : ℕ) : Type 0 where
  pub before : List Areas
  pub behind : List Areas
  pub all : areas ≡ before ++ (part ++ (end_of_file ∷ behind))
  pub number : length before ≡ first

-- the number by which a reader asks for a record of this number: its own; or 0, which is what comes before the first one
abbrev pub IsAskedBy : (number asked : ℕ) → Type 0
IsAskedBy number asked = (asked ≡ number) ⊎ ((asked ≡ 0) × (number ≡ 1))

-- Wherever these tracks are on a volume, in one extent or in several: what the reader writes in a form from the place of the first record of
-- a part on is the text of each record of the part, one behind another, and nothing else, and it ends with the end of file behind them, on
-- its track.
abbrev pub IsReadBack : DriveModel → (areas : List Areas) → Type 0
IsReadBack model areas =
    (form : ExtractedForm) (text : Areas → List ℕ) (part : List Areas) (first track number asked last its_number : ℕ)
    → IsPart areas part first → All (IsWrittenAs form text) part
    → StandsAt model areas first track number → IsAskedBy number asked → StandsAt model areas (first + length part) last its_number
    → (g : Geometry) (extents : List Extent) (slots : List (List ℕ)) (most : ℕ) → g.model ≡ model → last < track + most
    → IsLoaded g extents slots areas (last + 1)
    → source_written (wanted form extents (record { track = track; number = asked }) most) g slots ≡ ended_by_file (flat_map text part) last

-- So where the data are written as they stand, that is all data of the part and nothing else.
abbrev pub IsReadAsData : ExtractedForm → DriveModel → (areas : List Areas) → Type 0
IsReadAsData f model areas =
    (part : List Areas) (first track number asked last its_number : ℕ) → IsPart areas part first → All (IsWritten f) part
    → StandsAt model areas first track number → IsAskedBy number asked → StandsAt model areas (first + length part) last its_number
    → (g : Geometry) (extents : List Extent) (slots : List (List ℕ)) (most : ℕ) → g.model ≡ model → last < track + most
    → IsLoaded g extents slots areas (last + 1)
    → source_written (wanted f extents (record { track = track; number = asked }) most) g slots ≡ ended_by_file (data_of part) last
