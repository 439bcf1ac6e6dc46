-- Numbers of tracks, which stop at the greatest of 64 bits.
use Rattle.std.specs.Prelude.{ℕ, ◌+◌, ◌-◌, ◌^◌, ◌==◌, min, not, ◌||◌, ◌&&◌, if◌then◌else◌, List, sum_by}
use Rattle.ckd_track.specs.declared.geometries.Geometry.{Geometry}
use Rattle.ckd_track.specs.Model.{heads_of}
use Rattle.volume_labels.specs.declared.fields.Extent.{Extent}
use Rattle.volume_labels.specs.declared.fields.RelativeAddress.{RelativeAddress}
use Rattle.volume_labels.specs.Addresses.{tracks_of_extent}
use Rattle.volume_contents.specs.declared.blocks.Block.{Block}
use Rattle.volume_contents.specs.Runs.{is_on}
use Rattle.volume_contents.specs.Sets.{pieces_behind, number_of_free}

-- how many tracks of an extent are its data set's: none where it holds user labels, and none where it is not all on the volume
abbrev pub tracks_in : Geometry → Extent → ℕ
tracks_in g e = if (e.kind == 0x40) || not (is_on g e) then 0 else tracks_of_extent (heads_of g.model) e

abbrev pub tracks_owned : Geometry → List Extent → ℕ
tracks_owned g extents = min (sum_by (tracks_in g) extents) (2 ^ 64 - 1)

-- a data set's tracks up to its last block
abbrev pub tracks_used : (last : RelativeAddress) → ℕ
tracks_used last = if (last.track == 0) && (last.number == 0) then 0 else last.track + 1

abbrev pub tracks_free : Geometry → List Block → ℕ
tracks_free g blocks = min (sum_by (number_of_free g) (pieces_behind blocks)) (2 ^ 64 - 1)
