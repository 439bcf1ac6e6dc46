-- A library of a volume as it is read before a member is put into it.
use Rattle.std.specs.Prelude.{◌≡◌, ℕ, ◌/◌, Bool, if◌then◌else◌, List, length, Option, Some, None, Result, Ok, Err}
use Rattle.std.specs.List.{position}
use Rattle.ckd_track.specs.declared.geometries.Geometry.{Geometry}
use Rattle.volume_labels.specs.declared.blocks.DataSetBlock.{DataSetBlock}
use Rattle.volume_labels.specs.declared.fields.Extent.{Extent}
use Rattle.volume_labels.specs.Labels.{data_set_block_of}
use Rattle.dasd_extract.specs.Members.{directory}
use Rattle.dasd_extract.specs.Walk.{source_written}
use Rattle.set_forms.specs.Forms.{is_partitioned}
use Rattle.volume_contents.specs.declared.blocks.Block.{Block}
use Rattle.volume_contents.specs.Contents.{Said, contents_of, block_in}
use Rattle.volume_contents.specs.Sets.{extents_behind, has_name}
use Rattle.volume_contents.specs.Tracks.{tracks_owned}
use Rattle.new_labels.specs.SetBlocks.{fields_of}
use Rattle.library_contents.specs.declared.contents.LibraryContents.{LibraryContents}
use Rattle.library_contents.specs.declared.contents.LibraryReadFault.{LibraryReadFault}
use Rattle.library_contents.specs.declared.contents.LibraryReadFault.TheVariants as read
use Rattle.library_contents.specs.Members.{library_on}
use Rattle.library_contents.specs.Libraries.{GivesLibrary, directory_bytes}
use Rattle.changed_volumes.specs.Changes.{IsNotDone}
use Rattle.loaded_sets.specs.declared.place_fault.PlaceRefusal.{PlaceRefusal}
use Rattle.loaded_sets.specs.Volumes.{unfit_of}
use Rattle.loaded_sets.specs.declared.contents.NewSetForm.{NewSetForm}
use Rattle.loaded_sets.specs.declared.contents.KeptLabel.{KeptLabel}
use Rattle.loaded_folders.specs.declared.added.OldLibrary.{OldLibrary}
use Rattle.loaded_folders.specs.Faults.{NewMemberFault}
use Rattle.loaded_folders.specs.declared.member_fault.NewMemberRefusal.{NewMemberRefusal}
use Rattle.loaded_folders.specs.declared.member_fault.NewMemberRefusal.TheVariants as refusal

-- what a label says that is written again
abbrev pub form_in : DataSetBlock → NewSetForm
form_in d = record {
  organisation = d.organisation;
  attributes = record { format = d.format; record_length = d.record_length; block_length = d.block_length };
  key_length = d.key_length;
  created = d.created;
  expires = d.expires;
}

-- what a library keeps with this control block and these extents: how many tracks it has, and what else its label says
abbrev pub kept_in : Geometry → Block → List Extent → KeptLabel
kept_in g b extents = record { tracks = tracks_owned g extents; fields = fields_of b.bytes }

-- what the label of a control block says
abbrev pub label_in : Block → DataSetBlock
label_in b = data_set_block_of b.key b.bytes

-- the control block of a library
abbrev pub if_partitioned : Block → Bool → Result Block NewMemberRefusal
if_partitioned b is = if is then Ok b else Err refusal.NotPartitioned

-- the control block at a place, if it is that of a library
abbrev pub library_block : List Block → Option ℕ → Result Block NewMemberRefusal
library_block blocks (Some i) = if_partitioned (block_in blocks i) (is_partitioned (label_in (block_in blocks i)).organisation)
library_block blocks None = Err refusal.NoDataSet

-- The control block of the library of a name on a volume with these blocks; or why there is none: nothing is put onto the volume at all, it
-- has no such data set, or that has no directory. The first of these is told.
abbrev pub library_unless_unfit : (name : List ℕ) → List Block → Option PlaceRefusal → Result Block NewMemberRefusal
library_unless_unfit name blocks None = library_block blocks (position (has_name name) blocks)
library_unless_unfit name blocks (Some r) = Err (refusal.Volume r)

-- the same on a volume that says this
abbrev pub found_library : Geometry → (name : List ℕ) → Said → Result Block NewMemberRefusal
found_library g name s = library_unless_unfit name s.blocks (unfit_of g s)

-- how many blocks the directory has, of 256 bytes each
abbrev pub directory_blocks : List Extent → Geometry → (slots : List (List ℕ)) → ℕ
directory_blocks extents g slots = length (source_written (directory extents) g slots).bytes / 256

-- this was read of the library in these extents, or this hinders it
abbrev pub GivesRead : List Extent → Geometry → (slots : List (List ℕ)) → Result LibraryContents LibraryReadFault → Type 0
GivesRead extents g slots result = GivesLibrary (library_on extents g slots) (directory_bytes (library_on extents g slots)) result

-- a library in these extents that has this label, and keeps this
pub record IsReadOf (d : DataSetBlock) (kept : KeptLabel) (extents : List Extent) (g : Geometry) (slots : List (List ℕ)) (old : OldLibrary)
    : Type 0 where
  pub form : old.form ≡ form_in d
  pub keeps : old.kept ≡ kept
  pub directory_blocks : old.directory_blocks ≡ directory_blocks extents g slots
  pub contents : GivesRead extents g slots (Ok old.contents)

-- the library is not whole, for this reason
abbrev pub IsNotWhole : LibraryReadFault → List Extent → Geometry → (slots : List (List ℕ)) → Type 0
IsNotWhole (read.Volume f) extents g slots = ⊥
IsNotWhole read.Directory extents g slots = GivesRead extents g slots (Err read.Directory)
IsNotWhole (read.Member n) extents g slots = GivesRead extents g slots (Err (read.Member n))
IsNotWhole (read.ShortUserData n) extents g slots = GivesRead extents g slots (Err (read.ShortUserData n))
IsNotWhole (read.NoBlock n) extents g slots = GivesRead extents g slots (Err (read.NoBlock n))

-- a volume of these slots has the library of this name, and this was read of it
pub record IsOld (name : List ℕ) (g : Geometry) (slots : List (List ℕ)) (old : OldLibrary) : Type 0 where
  pub block : Block
  pub found : found_library g name (contents_of g slots) ≡ Ok block
  pub read : IsReadOf (label_in block) (kept_in g block (extents_behind (contents_of g slots).blocks block))
      (extents_behind (contents_of g slots).blocks block) g slots old

-- it has the library, which is not whole
pub record IsBroken (f : LibraryReadFault) (name : List ℕ) (g : Geometry) (slots : List (List ℕ)) : Type 0 where
  pub block : Block
  pub found : found_library g name (contents_of g slots) ≡ Ok block
  pub broken : IsNotWhole f (extents_behind (contents_of g slots).blocks block) g slots

-- why no library of this name is read
abbrev pub RefusesOld : NewMemberRefusal → (name : List ℕ) → Geometry → (slots : List (List ℕ)) → Type 0
RefusesOld (refusal.Read f) name g slots = IsBroken f name g slots
RefusesOld (refusal.Volume r) name g slots = found_library g name (contents_of g slots) ≡ Err (refusal.Volume r)
RefusesOld refusal.NoDataSet name g slots = found_library g name (contents_of g slots) ≡ Err refusal.NoDataSet
RefusesOld refusal.NotPartitioned name g slots = found_library g name (contents_of g slots) ≡ Err refusal.NotPartitioned
RefusesOld r name g slots = ⊥

-- it is refused so, or something hinders it
abbrev pub IsNotRead : NewMemberFault → (name : List ℕ) → Geometry → (slots : List (List ℕ)) → Type 0
IsNotRead f name g slots = IsNotDone f (λ r. RefusesOld r name g slots)
