-- The volumes that a data set is put onto, or why a volume gets none.
use Rattle.std.specs.Prelude.{◌≡◌, List, [], ◌∷◌, ◌++◌, flat_map, Option, Some, None}
use Rattle.ckd_track.specs.declared.geometries.Geometry.{Geometry}
use Rattle.volume_labels.specs.declared.blocks.ContentsBlock.{ContentsBlock}
use Rattle.volume_labels.specs.declared.fields.Extent.{Extent}
use Rattle.volume_labels.specs.declared.labels.VolumeLabel.{VolumeLabel}
use Rattle.volume_contents.specs.declared.blocks.Block.{Block}
use Rattle.volume_contents.specs.declared.findings.Finding.{Finding}
use Rattle.volume_contents.specs.Contents.{Said}
use Rattle.volume_contents.specs.Checks.{findings_of, extents_of}
use Rattle.changed_volumes.specs.Changes.{IsHindered}
use Rattle.volume_changes.specs.declared.refusal.ChangeRefusal.TheVariants.{NoLabel, NoContents}
use Rattle.loaded_sets.specs.declared.place_fault.PlaceFault.{PlaceFault}
use Rattle.loaded_sets.specs.declared.place_fault.PlaceFault.TheVariants as fault
use Rattle.loaded_sets.specs.declared.place_fault.PlaceRefusal.{PlaceRefusal}
use Rattle.loaded_sets.specs.declared.place_fault.PlaceRefusal.TheVariants.{Volume, Findings}
use Rattle.loaded_sets.specs.declared.volumes.SoundVolume.{SoundVolume}

-- a volume that has a label and a table of contents, whose format 4 block and control blocks in use are these
pub record Labelled : Type 0 where
  pub geometry : Geometry
  pub label : VolumeLabel
  pub table : ContentsBlock
  pub blocks : List Block

abbrev pub labelled : SoundVolume → Labelled
labelled v = record { geometry = v.geometry; label = v.label; table = v.table; blocks = v.blocks.now }

-- the volume that says this of itself
pub record SaysOf (g : Geometry) (s : Said) (v : Labelled) : Type 0 where
  pub geometry : v.geometry ≡ g
  pub label : s.label ≡ Some v.label
  pub table : s.table ≡ Some v.table
  pub blocks : s.blocks ≡ v.blocks

-- the extents of its table of contents and of all its data sets
abbrev pub taken_extents : Labelled → List Extent
taken_extents v = v.table.extent ∷ flat_map (extents_of v.blocks) v.blocks

-- all that is wrong with a volume that says this: with its table of contents, its data sets and its free tracks
abbrev pub all_findings : Geometry → Said → List Finding
all_findings g s = s.findings ++ findings_of g s.table s.blocks

-- Why a volume that says this gets no data set, whatever that is: it has no label, no table of contents, or something is wrong with it. The
-- first of these is told.
abbrev pub unfit_by : List Finding → Option PlaceRefusal
unfit_by [] = None
unfit_by (f ∷ more) = Some Findings

abbrev pub unfit_on_table : Geometry → Said → Option ContentsBlock → Option PlaceRefusal
unfit_on_table g s None = Some (Volume NoContents)
unfit_on_table g s (Some t) = unfit_by (all_findings g s)

abbrev pub unfit_on_label : Geometry → Said → Option VolumeLabel → Option PlaceRefusal
unfit_on_label g s None = Some (Volume NoLabel)
unfit_on_label g s (Some l) = unfit_on_table g s s.table

abbrev pub unfit_of : Geometry → Said → Option PlaceRefusal
unfit_of g s = unfit_on_label g s s.label

-- it gets none for this reason, or something hinders it
abbrev pub IsUnfit : PlaceFault → Geometry → Said → Type 0
IsUnfit (fault.Refused r) g s = unfit_of g s ≡ Some r
IsUnfit (fault.Job f) g s = IsHindered f
