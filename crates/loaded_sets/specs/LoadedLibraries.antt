-- A volume with a library that was put onto it.
use Rattle.std.specs.Prelude.{◌≡◌, ◌⊎◌, ℕ, ◌+◌, ◌<◌, List, [], length, map, slice_index_or, All, None, Some, Ok, Err}
use Rattle.ckd_track.specs.declared.geometries.Geometry.{Geometry}
use Rattle.ckd_track.specs.declared.model.DriveModel.{DriveModel}
use Rattle.volume_labels.specs.declared.fields.Extent.{Extent}
use Rattle.dasd_extract.specs.Members.{directory}
use Rattle.dasd_extract.specs.Walk.{wanted, source_written}
use Rattle.record_tracks.specs.Blocks.{block_areas}
use Rattle.record_tracks.specs.Extracted.{form_of}
use Rattle.record_tracks.specs.ReadBack.{ended_by_file}
use Rattle.record_tracks.specs.Entries.{entry_read}
use Rattle.record_tracks.specs.declared.libraries.MemberEntry.{MemberEntry}
use Rattle.record_tracks.specs.declared.libraries.NewLibrary.{NewLibrary}
use Rattle.record_tracks.specs.Library.{member_areas}
use Rattle.record_tracks.specs.MemberEntries.{block_address, entry_contents}
use Rattle.record_tracks.specs.LibraryFaults.{library_fault}
use Rattle.record_tracks.specs.LibraryRead.{own_areas, own_directory_end, HasRecords, HasEntries, IsLibraryRead}
use Rattle.volume_contents.specs.Contents.{contents_of, block_in}
use Rattle.volume_contents.specs.Sets.{extents_behind}
use Rattle.changed_volumes.specs.Changes.{IsNotDone}
use Rattle.loaded_sets.specs.declared.plans.PlacedSet.{PlacedSet}
use Rattle.loaded_sets.specs.declared.plans.SetLabel.{SetLabel}
use Rattle.loaded_sets.specs.Volumes.{Labelled, SaysOf}
use Rattle.loaded_sets.specs.Sets.{areas}
use Rattle.loaded_sets.specs.Placed.{GetsSet, HasNoPlace}
use Rattle.loaded_sets.specs.Faults.{LoadFault}
use Rattle.loaded_sets.specs.declared.fault.LoadRefusal.{LoadRefusal}
use Rattle.loaded_sets.specs.declared.fault.LoadRefusal.TheVariants as refusal
use Rattle.loaded_sets.specs.Contents.{label_of}
use Rattle.loaded_sets.specs.declared.libraries.LoadedLibrary.{LoadedLibrary}
use Rattle.loaded_sets.specs.Members.{MemberBlocks, blocks_on}

-- The library whose members have these blocks.
pub record IsLibraryOf (library : LoadedLibrary) (b : MemberBlocks) (l : NewLibrary) : Type 0 where
  pub directory_blocks : l.directory_blocks ≡ library.directory_blocks
  pub entries : l.entries.now ≡ library.entries.now
  pub members : map member_areas l.members.now ≡ map (block_areas b.cut) b.members

-- The data set of a library: all its records, of which its label calls the end of file behind the last member the last one.
pub record IsSetOf (its_name : List ℕ) (its_label : SetLabel) (model : DriveModel) (l : NewLibrary) (p : PlacedSet) : Type 0 where
  pub name : p.name ≡ its_name
  pub label : p.label ≡ its_label
  pub records : areas p ≡ own_areas model l
  pub last : p.last ≡ length (own_areas model l)

-- The library has a directory; a volume of these slots gets its records as a data set of this name and label; and wherever they are, a
-- reader has its entries, its members, and the blocks that its user data lead to.
pub record GetsRecords (v : Labelled) (name : List ℕ) (label : SetLabel) (l : NewLibrary) (before : List (List ℕ)) (tracks : ℕ)
    (now : List (List ℕ)) : Type 0 where
  pub sound : library_fault v.geometry.model l ≡ None
  pub placed : PlacedSet
  pub is : IsSetOf name label v.geometry.model l placed
  pub gets : GetsSet v placed before tracks now
  pub read : IsLibraryRead v.geometry.model l

-- What a reader has from the address of an entry on, in the form of the file: the bytes of its member and nothing else, ended by the end of
-- file behind the member.
abbrev pub IsMemberRead : Geometry → List Extent → (slots : List (List ℕ)) → MemberBlocks → NewLibrary → MemberEntry → Type 0
IsMemberRead g extents slots b l e =
    let bytes = slice_index_or b.members e.member [] in
    let start = (entry_read (entry_contents g.model l e)).address in
    let end = (block_address g.model l e.member (length (block_areas b.cut bytes))).track in
    (most : ℕ) → end < start.track + most
    → source_written (wanted (form_of b.cut) extents start most) g slots ≡ ended_by_file bytes end

-- A volume gets the library whose members have these blocks. In the extents that a reader finds are its records: so the reader has of its
-- directory the entries, where they take 512 tracks at most, and of each entry the member.
pub record GetsLibrary (v : Labelled) (library : LoadedLibrary) (b : MemberBlocks) (before : List (List ℕ)) (tracks : ℕ)
    (now : List (List ℕ)) : Type 0 where
  pub made : NewLibrary
  pub is : IsLibraryOf library b made
  pub records : GetsRecords v library.name (label_of library.form library.kept b.layout) made before tracks now
  pub extents : List Extent
  pub found : extents ≡ extents_behind (contents_of v.geometry now).blocks (block_in (contents_of v.geometry now).blocks records.gets.place)
  pub has : HasRecords v.geometry.model (own_areas v.geometry.model made) v.geometry extents now
  pub directory : own_directory_end v.geometry.model made < 512
      → HasEntries v.geometry.model made (source_written (directory extents) v.geometry now)
  pub members : All (IsMemberRead v.geometry extents now b made) library.entries.now

-- the volume is one that can get the library, whose members have these blocks, and gets it
pub record Loaded (library : LoadedLibrary) (g : Geometry) (before : List (List ℕ)) (tracks : ℕ) (now : List (List ℕ)) : Type 0 where
  pub volume : Labelled
  pub says : SaysOf g (contents_of g before) volume
  pub blocks : MemberBlocks
  pub fits : blocks_on g library (contents_of g before) ≡ Ok blocks
  pub loaded : GetsLibrary volume library blocks before tracks now

-- the volume would get it with these blocks
pub record WouldFit (library : LoadedLibrary) (g : Geometry) (slots : List (List ℕ)) (v : Labelled) (b : MemberBlocks) (l : NewLibrary)
    : Type 0 where
  pub says : SaysOf g (contents_of g slots) v
  pub fits : blocks_on g library (contents_of g slots) ≡ Ok b
  pub is : IsLibraryOf library b l

-- Why a volume that could get a library does not: it has no directory for this reason; or it has one, and its records have no place.
abbrev pub HasNone : LoadRefusal → Labelled → (name : List ℕ) → SetLabel → NewLibrary → (slots : List (List ℕ)) → Type 0
HasNone (refusal.Library f) v name label l slots = library_fault v.geometry.model l ≡ Some f
HasNone (refusal.Placed r) v name label l slots =
    (library_fault v.geometry.model l ≡ None) × (p : PlacedSet) × IsSetOf name label v.geometry.model l p × HasNoPlace r v p slots
HasNone r v name label l slots = ⊥

-- Why a volume does not get a library: it gets none, or the files of its members have no such blocks, for this reason; or it would get the
-- library, which has no directory, or for which it has no place.
abbrev pub Refuses : LoadRefusal → LoadedLibrary → Geometry → (slots : List (List ℕ)) → Type 0
Refuses r library g slots =
    (blocks_on g library (contents_of g slots) ≡ Err r)
    ⊎ ((v : Labelled) × (b : MemberBlocks) × (l : NewLibrary) × WouldFit library g slots v b l
    × HasNone r v library.name (label_of library.form library.kept b.layout) l slots)

-- it is refused so, or something hinders it
abbrev pub IsNotLoaded : LoadFault → LoadedLibrary → Geometry → (slots : List (List ℕ)) → Type 0
IsNotLoaded f library g slots = IsNotDone f (λ r. Refuses r library g slots)
