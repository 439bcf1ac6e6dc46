-- What `dasd extract --text` prints of a data set that has the records of a text, by the definitions of the reader.
use Rattle.std.specs.Prelude.{◌≡◌, ℕ, ◌-◌, ◌*◌, ◌≤◌, List, flat_map, Ok}
use Rattle.ckd_track.specs.declared.geometries.Geometry.{Geometry}
use Rattle.ckd_track.specs.Model.{capacity_of}
use Rattle.volume_labels.specs.declared.fields.Extent.{Extent}
use Rattle.volume_labels.specs.declared.records.RecordForm.TheVariants.{Fixed}
use Rattle.volume_labels.specs.declared.layouts.Layout.{Layout}
use Rattle.dasd_extract.specs.declared.blocks.ExtractedForm.TheVariants.{Text}
use Rattle.dasd_extract.specs.Walk.{wanted, source_written}
use Rattle.record_tracks.specs.declared.blocks.Cut.TheVariants.{Length}
use Rattle.record_tracks.specs.Tracks.{Takes}
use Rattle.record_tracks.specs.ReadBack.{IsLoaded, ended_by_file}
use Rattle.record_tracks.specs.Blocks.{areas_of}
use Rattle.record_tracks.specs.Extracted.{first_block}
use Rattle.record_tracks.specs.Lines.{lines_of}
use Rattle.record_tracks.specs.TextRecords.{records_of}
use Rattle.record_tracks.specs.Read.{ended, without_blanks}

-- blocks of so many records of this length
abbrev pub layout_of : (size count : ℕ) → Layout
layout_of size count = record { form = Fixed size; longest = count * size }

-- The records of a text are a data set, in blocks of so many records each, which go on a track, on the first tracks of these extents.
pub record HasText (g : Geometry) (extents : List Extent) (slots : List (List ℕ)) (size count : ℕ) (text : List ℕ) (tracks : ℕ) : Type 0 where
  pub some : 1 ≤ size
  pub many : 1 ≤ count
  pub most : count * size ≤ capacity_of g.model
  pub records : List ℕ
  pub are : records_of size text ≡ Ok records
  pub takes : Takes g.model (areas_of (Length (count * size)) records) tracks
  pub loaded : IsLoaded g extents slots (areas_of (Length (count * size)) records) tracks

-- the lines of a text, without the blanks at the end of each
abbrev pub printed : (text : List ℕ) → List ℕ
printed text = flat_map (λ line. ended (without_blanks line)) (lines_of text)

-- Then the reader of text prints the lines of the text, and nothing else, up to the end of file on the last of the tracks.
abbrev pub IsPrinted : Type 0
IsPrinted =
    (g : Geometry) (extents : List Extent) (slots : List (List ℕ)) (size count : ℕ) (text : List ℕ) (tracks most : ℕ)
    → HasText g extents slots size count text tracks → tracks ≤ most
    → source_written (wanted (Text (layout_of size count)) extents first_block most) g slots ≡ ended_by_file (printed text) (tracks - 1)
