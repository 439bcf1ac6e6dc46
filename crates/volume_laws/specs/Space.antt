-- Who holds the tracks of a volume: extents, and pieces of free tracks.
use Rattle.std.specs.Prelude.{◌≡◌, ℕ, ◌+◌, ◌≤◌, ◌<◌, List, [], count_by, flat_map, replicate, Some, None}
use Rattle.ckd_track.specs.Geometry.{tracks_of}
use Rattle.ckd_track.specs.Model.{heads_of}
use Rattle.volume_labels.specs.declared.fields.Extent.{Extent}
use Rattle.new_labels.specs.Runs.{has_track}
use Rattle.volume_contents.specs.Claims.{claim_of}
use Rattle.volume_contents.specs.Sets.{pieces_behind}
use Rattle.volume_contents.specs.Checks.{extents_of, findings_of}
use Rattle.volume_changes.specs.Runs.{has_free}
use Rattle.loaded_sets.specs.Volumes.{Labelled, taken_extents}

-- the extents of the data sets of a volume
abbrev pub set_extents : Labelled → List Extent
set_extents v = flat_map (extents_of v.blocks) v.blocks

-- how many extents and pieces of free tracks have the volume's track n
abbrev pub holders : Labelled → (n : ℕ) → ℕ
holders v n =
    count_by (has_track (heads_of v.geometry.model) n) (taken_extents v) + count_by (has_free v.geometry n) (pieces_behind v.blocks)

-- no track has two holders, and one that has any is on the volume
pub record HoldsApart (v : Labelled) : Type 0 where
  pub once : (n : ℕ) → holders v n ≤ 1
  pub inside : (n : ℕ) → 0 < holders v n → n < tracks_of v.geometry

-- nothing is found wrong with the space of a volume, and its table of contents is on tracks that it has
pub record IsSound (v : Labelled) : Type 0 where
  pub table : claim_of v.geometry (replicate (tracks_of v.geometry) 0) v.table.extent ≡ None
  pub nothing : findings_of v.geometry (Some v.table) v.blocks ≡ []

-- of such a volume the table of contents, the extents of data sets and the pieces of free tracks have no track in common, and are on the
-- volume
abbrev pub NothingShared : Type 0
NothingShared = (v : Labelled) → IsSound v → HoldsApart v
