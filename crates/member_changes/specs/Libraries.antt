-- The library of a name on a volume, and its directory.
use Rattle.std.specs.Prelude.{ℕ, List, if◌then◌else◌, Option, Some, None, Result, Ok, Err}
use Rattle.std.specs.List.{position}
use Rattle.ckd_track.specs.declared.geometries.Geometry.{Geometry}
use Rattle.volume_labels.specs.declared.fields.Extent.{Extent}
use Rattle.volume_labels.specs.declared.labels.VolumeLabel.{VolumeLabel}
use Rattle.volume_labels.specs.declared.blocks.ContentsBlock.{ContentsBlock}
use Rattle.volume_labels.specs.Labels.{data_set_block_of}
use Rattle.volume_contents.specs.declared.blocks.Block.{Block}
use Rattle.volume_contents.specs.Contents.{Said, block_in}
use Rattle.volume_contents.specs.Sets.{has_name, extents_behind}
use Rattle.dasd_extract.specs.declared.stops.Cause.{Cause}
use Rattle.dasd_extract.specs.declared.stops.Cause.TheVariants.{EndOfFile, EndBehindAlternates}
use Rattle.dasd_extract.specs.declared.stops.Stop.{Stop}
use Rattle.dasd_extract.specs.Members.{directory}
use Rattle.dasd_extract.specs.Walk.{source_written}
use Rattle.dasd_extract.specs.Written.{Written}
use Rattle.set_forms.specs.Forms.{is_partitioned}
use Rattle.member_changes.specs.declared.refusal.MemberRefusal.{MemberRefusal}
use Rattle.member_changes.specs.declared.refusal.MemberRefusal.TheVariants as refusal
use Rattle.member_changes.specs.Plans.{and_then}

-- the extents of a data set that is partitioned
abbrev pub library_at : List Block → Option ℕ → Result (List Extent) MemberRefusal
library_at blocks None = Err refusal.NoDataSet
library_at blocks (Some i) =
    let b = block_in blocks i in
    if is_partitioned (data_set_block_of b.key b.bytes).organisation then Ok (extents_behind blocks b) else Err refusal.NotPartitioned

abbrev pub library_in : Option VolumeLabel → Option ContentsBlock → List Block → (name : List ℕ) → Result (List Extent) MemberRefusal
library_in None table blocks name = Err refusal.NoLabel
library_in (Some l) None blocks name = Err refusal.NoContents
library_in (Some l) (Some t) blocks name = library_at blocks (position (has_name name) blocks)

-- the extents of the library of a name: of the first data set of the name in the order of the table of contents
abbrev pub library_of : Said → (name : List ℕ) → Result (List Extent) MemberRefusal
library_of s name = library_in s.label s.table s.blocks name

-- an end of file ends the blocks of a directory on this track, and none of them is on an alternate
abbrev pub end_by : (track : ℕ) → Cause → Result ℕ MemberRefusal
end_by track EndOfFile = Ok track
end_by track EndBehindAlternates = Err refusal.OnAlternates
end_by track other = Err refusal.NotWhole

-- the last track with blocks of a directory, counted from the library's first one, which is 0
abbrev pub last_track : Option Stop → Result ℕ MemberRefusal
last_track None = Err refusal.NotWhole
last_track (Some stop) = end_by stop.track stop.cause

-- the data of the blocks of a directory, 256 bytes each, and its last track
pub record ReadDirectory : Type 0 where
  pub bytes : List ℕ
  pub last : ℕ

abbrev pub directory_from : Written → Result ReadDirectory MemberRefusal
directory_from w = and_then (last_track w.stop) (λ last. Ok (record { bytes = w.bytes; last = last }))

-- the directory of a library with these extents
abbrev pub directory_on : List Extent → Geometry → (slots : List (List ℕ)) → Result ReadDirectory MemberRefusal
directory_on extents g slots = directory_from (source_written (directory extents) g slots)
