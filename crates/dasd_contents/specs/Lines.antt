-- The lines of `dasd vtoc`.
use Rattle.std.specs.Prelude.{ℕ, ◌-◌, true, false, if◌then◌else◌, List, [], ◌∷◌, ◌++◌, length, replicate, codes}
use Rattle.std.specs.Prelude.{Option, Some, None}
use Rattle.std.specs.List.{concat, flat_map}
use Rattle.std.specs.Fmt.{decimal}
use Rattle.counted_io.specs.Quantities.{quantity_text}
use Rattle.ckd_track.specs.declared.geometries.Geometry.{Geometry}
use Rattle.volume_labels.specs.declared.fields.Extent.{Extent}
use Rattle.volume_labels.specs.declared.labels.VolumeLabel.{VolumeLabel}
use Rattle.volume_labels.specs.declared.blocks.DataSetBlock.{DataSetBlock}
use Rattle.volume_labels.specs.declared.blocks.ContentsBlock.{ContentsBlock}
use Rattle.volume_labels.specs.Labels.{data_set_block_of}
use Rattle.dasd_volumes.specs.Lines.{line_feed}
use Rattle.volume_contents.specs.declared.blocks.Block.{Block}
use Rattle.volume_contents.specs.declared.reading.Contents.{Contents}
use Rattle.volume_contents.specs.declared.findings.Finding.{Finding}
use Rattle.volume_contents.specs.Sets.{is_data_set, extents_behind}
use Rattle.volume_contents.specs.Tracks.{tracks_owned, tracks_used, tracks_free}
use Rattle.dasd_contents.specs.Words.{place_text, extent_text, text_of, owner_text, day_text, organisation_text, format_text, problem_text}

-- Columns: a text, and blanks behind it or before it up to a width.

abbrev pub at_left : (width : ℕ) → List ℕ → List ℕ
at_left width text = text ++ replicate (width - length text) 32

abbrev pub at_right : (width : ℕ) → List ℕ → List ℕ
at_right width text = replicate (width - length text) 32 ++ text

-- The label: its serial number, its owner, and where the volume table of contents is.
abbrev pub label_line : VolumeLabel → ContentsBlock → List ℕ
label_line l t = concat (
    text_of false l.serial ∷ codes "  owner " ∷ owner_text l.owner ∷ codes "  VTOC " ∷ extent_text t.extent ∷ line_feed ∷ [])

-- the label of a volume that has no table of contents
abbrev pub label_alone : VolumeLabel → List ℕ
label_alone l = concat (text_of false l.serial ∷ codes "  owner " ∷ owner_text l.owner ∷ codes "  no VTOC" ∷ line_feed ∷ [])

-- what stands above the columns
unfoldable pub heading : List ℕ
heading = codes "Data set                                     Created  Expires  Org Recfm Lrecl Blksz Tracks   Used Extents" ++ line_feed

-- A data set.

-- its name, when it was made, when it may be scratched, and its organisation
unfoldable pub name_columns : DataSetBlock → List ℕ
name_columns d = concat (
    text_of false d.name ∷ codes " " ∷ day_text true d.created ∷ codes " " ∷ day_text true d.expires ∷ codes " " ∷ organisation_text true d.organisation
    ∷ codes " " ∷ [])

-- the lengths of its records and blocks, its tracks, those of them that are used, and how many extents it has
unfoldable pub number_columns : Geometry → DataSetBlock → List Extent → List ℕ
number_columns g d extents = concat (
    codes " " ∷ at_right 5 (decimal d.record_length) ∷ codes " " ∷ at_right 5 (decimal d.block_length) ∷ codes " "
    ∷ at_right 6 (decimal (tracks_owned g extents))
    ∷ codes " " ∷ at_right 6 (decimal (tracks_used d.last)) ∷ codes " " ∷ at_right 7 (decimal (length extents)) ∷ line_feed ∷ [])

abbrev pub set_line : Geometry → DataSetBlock → List Extent → List ℕ
set_line g d extents = name_columns d ++ (at_left 5 (format_text d.format) ++ number_columns g d extents)

-- a control block among those of its volume: the line of its data set, if it is one's
abbrev pub block_line : Geometry → List Block → Block → List ℕ
block_line g blocks b = if is_data_set b.kind then set_line g (data_set_block_of b.key b.bytes) (extents_behind blocks b) else []

-- The free tracks, and how many control blocks are free.
abbrev pub free_line : Geometry → List Block → ContentsBlock → List ℕ
free_line g blocks t = concat (
    codes "free " ∷ quantity_text (tracks_free g blocks) (codes "track") (codes "tracks") ∷ codes ", "
    ∷ quantity_text t.free_blocks (codes "control block") (codes "control blocks") ∷ line_feed ∷ [])

-- What is wrong, and where.
abbrev pub finding_line : Finding → List ℕ
finding_line f = concat (codes "finding " ∷ place_text f.place ∷ codes " " ∷ problem_text f.problem ∷ line_feed ∷ [])

-- The whole.

-- the label, the data sets in the order of their blocks, and the free tracks; the label alone where there is no table, and nothing where
-- there is no label
abbrev pub volume_lines : Geometry → List Block → Option VolumeLabel → Option ContentsBlock → List ℕ
volume_lines g blocks None table = []
volume_lines g blocks (Some l) None = label_alone l
volume_lines g blocks (Some l) (Some t) = label_line l t ++ (heading ++ (flat_map (block_line g blocks) blocks ++ free_line g blocks t))

-- what `dasd vtoc` prints of what a volume holds: the lines of the volume, and one for each thing that is wrong
abbrev pub contents_lines : Geometry → Contents → List ℕ
contents_lines g c = volume_lines g c.found.blocks.items c.label c.table ++ flat_map finding_line c.found.findings.items
