-- The objects of `dasd vtoc --json`, one a line. Each begins with the volume's path, which is a string of JSON with its quotes.
use Rattle.std.specs.Prelude.{ℕ, ◌==◌, true, false, if◌then◌else◌, List, [], ◌∷◌, ◌++◌, length, slice_index_or, codes, Option, Some, None}
use Rattle.std.specs.List.{concat, flat_map}
use Rattle.std.specs.Fmt.{decimal}
use Rattle.ckd_track.specs.declared.geometries.Geometry.{Geometry}
use Rattle.volume_labels.specs.declared.fields.Date.{Date}
use Rattle.volume_labels.specs.declared.fields.Extent.{Extent}
use Rattle.volume_labels.specs.declared.labels.VolumeLabel.{VolumeLabel}
use Rattle.volume_labels.specs.declared.blocks.DataSetBlock.{DataSetBlock}
use Rattle.volume_labels.specs.declared.blocks.ContentsBlock.{ContentsBlock}
use Rattle.volume_labels.specs.Labels.{data_set_block_of}
use Rattle.volume_labels.specs.Lines.{without_blanks}
use Rattle.dasd_volumes.specs.Lines.{line_feed}
use Rattle.dasd_volumes.specs.Volumes.{of_each}
use Rattle.volume_contents.specs.declared.blocks.Block.{Block}
use Rattle.volume_contents.specs.declared.reading.Contents.{Contents}
use Rattle.volume_contents.specs.declared.findings.Finding.{Finding}
use Rattle.volume_contents.specs.Sets.{is_data_set, extents_behind}
use Rattle.dasd_contents.specs.Words.{text_of, is_date, day_text, organisation_text, format_text, kind_text, problem_text}
use Rattle.volume_contents.specs.Tracks.{tracks_owned, tracks_used, tracks_free}

-- text that stands within quotes, without the blanks behind it
abbrev pub quoted_text : List ℕ → List ℕ
quoted_text bytes = text_of true (without_blanks bytes)

-- an extent as a list of cylinder, head, cylinder and head
abbrev pub four_text : Extent → List ℕ
four_text e = concat (
    codes "[" ∷ decimal e.first.cylinder ∷ codes "," ∷ decimal e.first.head ∷ codes "," ∷ decimal e.last.cylinder ∷ codes "," ∷ decimal e.last.head ∷ codes "]"
    ∷ [])

-- a date as a string, or null where there is none
abbrev pub day_or_null : Date → List ℕ
day_or_null d = if is_date d then concat (codes "\"" ∷ day_text false d ∷ codes "\"" ∷ []) else codes "null"

-- how each object begins
unfoldable pub path_text : (path : List ℕ) → List ℕ
path_text path = codes "{\"path\":" ++ path

-- The volume: its label, where its table is, and what of it is free.
unfoldable pub label_members : VolumeLabel → ContentsBlock → (free : ℕ) → List ℕ
label_members l t free = concat (
    codes ",\"serial\":\"" ∷ quoted_text l.serial ∷ codes "\",\"owner\":\"" ∷ quoted_text l.owner ∷ codes "\",\"contents\":" ∷ four_text t.extent
    ∷ codes ",\"free_tracks\":" ∷ decimal free ∷ codes ",\"free_blocks\":" ∷ decimal t.free_blocks ∷ codes "}" ∷ line_feed ∷ [])

-- the label of a volume that has no table
unfoldable pub alone_members : VolumeLabel → List ℕ
alone_members l = concat (
    codes ",\"serial\":\"" ∷ quoted_text l.serial ∷ codes "\",\"owner\":\"" ∷ quoted_text l.owner ∷ codes "\"}" ∷ line_feed ∷ [])

abbrev pub volume_object : (path : List ℕ) → VolumeLabel → ContentsBlock → (free : ℕ) → List ℕ
volume_object path l t free = path_text path ++ label_members l t free

-- A data set.

-- its name, its dates, its organisation and the format of its records
unfoldable pub name_members : DataSetBlock → List ℕ
name_members d = concat (
    codes ",\"name\":\"" ∷ quoted_text d.name ∷ codes "\",\"created\":" ∷ day_or_null d.created ∷ codes ",\"expires\":" ∷ day_or_null d.expires
    ∷ codes ",\"organisation\":\"" ∷ organisation_text false d.organisation ∷ codes "\",\"format\":\"" ∷ format_text d.format ∷ codes "\"" ∷ [])

-- the lengths of its records, blocks and keys, its tracks, and those of them that are used
unfoldable pub number_members : Geometry → DataSetBlock → List Extent → List ℕ
number_members g d extents = concat (
    codes ",\"record_length\":" ∷ decimal d.record_length ∷ codes ",\"block_length\":" ∷ decimal d.block_length ∷ codes ",\"key_length\":"
    ∷ decimal d.key_length
    ∷ codes ",\"tracks\":" ∷ decimal (tracks_owned g extents) ∷ codes ",\"used\":" ∷ decimal (tracks_used d.last) ∷ codes ",\"extents\":[" ∷ [])

-- its extents, with commas between them
abbrev pub no_extent : Extent
no_extent = record { kind = 0; number = 0; first = record { cylinder = 0; head = 0 }; last = record { cylinder = 0; head = 0 } }

abbrev pub comma_before : (i : ℕ) → List ℕ
comma_before i = if i == 0 then [] else codes ","

abbrev pub listed_extent : List Extent → (i : ℕ) → List ℕ
listed_extent extents i = comma_before i ++ four_text (slice_index_or extents i no_extent)

abbrev pub extents_text : List Extent → List ℕ
extents_text extents = of_each (listed_extent extents) (length extents)

-- their types, likewise
abbrev pub listed_type : List Extent → (i : ℕ) → List ℕ
listed_type extents i = comma_before i ++ decimal (slice_index_or extents i no_extent).kind

abbrev pub types_text : List Extent → List ℕ
types_text extents = of_each (listed_type extents) (length extents)

abbrev pub set_object : (path : List ℕ) → Geometry → DataSetBlock → List Extent → List ℕ
set_object path g d extents =
    path_text path ++ (name_members d ++ (number_members g d extents ++ (extents_text extents
    ++ (codes "],\"extent_types\":[" ++ (types_text extents ++ (codes "]}" ++ line_feed))))))

-- a control block among those of its volume: the object of its data set, if it is one's
abbrev pub block_object : (path : List ℕ) → Geometry → List Block → Block → List ℕ
block_object path g blocks b = if is_data_set b.kind then set_object path g (data_set_block_of b.key b.bytes) (extents_behind blocks b) else []

-- What is wrong, and where.
unfoldable pub finding_members : Finding → List ℕ
finding_members f = concat (
    codes ",\"cylinder\":" ∷ decimal f.place.track.cylinder ∷ codes ",\"head\":" ∷ decimal f.place.track.head ∷ codes ",\"record\":" ∷ decimal f.place.number
    ∷ codes ",\"kind\":\"" ∷ kind_text f.problem ∷ codes "\",\"text\":\"" ∷ problem_text f.problem ∷ codes "\"}" ∷ line_feed ∷ [])

abbrev pub finding_object : (path : List ℕ) → Finding → List ℕ
finding_object path f = path_text path ++ finding_members f

-- The whole.

-- the volume, and the data sets in the order of their blocks; the volume's label alone where there is no table, and nothing where there is
-- no label
abbrev pub volume_objects : (path : List ℕ) → Geometry → List Block → Option VolumeLabel → Option ContentsBlock → List ℕ
volume_objects path g blocks None table = []
volume_objects path g blocks (Some l) None = path_text path ++ alone_members l
volume_objects path g blocks (Some l) (Some t) = volume_object path l t (tracks_free g blocks) ++ flat_map (block_object path g blocks) blocks

-- what `dasd vtoc --json` prints of what a volume holds: the objects of the volume, and one for each thing that is wrong
abbrev pub contents_objects : (path : List ℕ) → Geometry → Contents → List ℕ
contents_objects path g c = volume_objects path g c.found.blocks.items c.label c.table ++ flat_map (finding_object path) c.found.findings.items
