-- What is extracted of a data set whose blocks were loaded, by the definitions of the reader.
use Rattle.std.specs.Prelude.{◌≡◌, ℕ, ◌-◌, ◌≤◌, List, flat_map, All}
use Rattle.ckd_track.specs.declared.model.DriveModel.{DriveModel}
use Rattle.ckd_track.specs.declared.geometries.Geometry.{Geometry}
use Rattle.volume_labels.specs.declared.fields.Extent.{Extent}
use Rattle.volume_labels.specs.declared.fields.RelativeAddress.{RelativeAddress}
use Rattle.dasd_extract.specs.declared.blocks.ExtractedForm.{ExtractedForm}
use Rattle.dasd_extract.specs.declared.blocks.ExtractedForm.TheVariants.{Raw, Keyed}
use Rattle.dasd_extract.specs.Walk.{wanted, source_written}
use Rattle.record_tracks.specs.Records.{Areas}
use Rattle.record_tracks.specs.Tracks.{Takes}
use Rattle.record_tracks.specs.ReadBack.{IsLoaded, IsWrittenAs, ended_by_file}
use Rattle.record_tracks.specs.declared.blocks.Cut.{Cut}
use Rattle.record_tracks.specs.declared.blocks.Cut.TheVariants.{Length, Described, WithLengths}
use Rattle.record_tracks.specs.Blocks.{block_areas, areas_of}

-- the first block of a data set
abbrev pub first_block : RelativeAddress
first_block = record { track = 0; number = 0 }

-- how the reader writes blocks as a file has them that is cut so: as they stand, or with their lengths and keys
abbrev pub form_of : Cut → ExtractedForm
form_of (Length size) = Raw
form_of Described = Raw
form_of WithLengths = Keyed

-- Wherever the tracks with these blocks are on a volume, what the reader writes of them in a form is the text of each, one behind another, and
-- it ends with the end of file on the last of the tracks.
abbrev pub IsReadAs : DriveModel → Cut → (bytes : List ℕ) → Type 0
IsReadAs model cut bytes =
    (form : ExtractedForm) (text : Areas → List ℕ) (tracks : ℕ) (g : Geometry) (extents : List Extent) (slots : List (List ℕ)) (most : ℕ)
    → All (IsWrittenAs form text) (block_areas cut bytes) → Takes model (areas_of cut bytes) tracks
    → g.model ≡ model → tracks ≤ most → IsLoaded g extents slots (areas_of cut bytes) tracks
    → source_written (wanted form extents first_block most) g slots ≡ ended_by_file (flat_map text (block_areas cut bytes)) (tracks - 1)

-- Wherever the tracks with these blocks are on a volume, what the reader writes of them as the file has them is all of its bytes and nothing
-- else, and it ends with the end of file on the last of the tracks.
abbrev pub IsReadBack : DriveModel → Cut → (bytes : List ℕ) → Type 0
IsReadBack model cut bytes =
    (tracks : ℕ) (g : Geometry) (extents : List Extent) (slots : List (List ℕ)) (most : ℕ) → Takes model (areas_of cut bytes) tracks
    → g.model ≡ model → tracks ≤ most → IsLoaded g extents slots (areas_of cut bytes) tracks
    → source_written (wanted (form_of cut) extents first_block most) g slots ≡ ended_by_file bytes (tracks - 1)
