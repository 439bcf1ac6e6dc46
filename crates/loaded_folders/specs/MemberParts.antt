-- How the code holds what the contracts speak of; no public contract names these.
use Rattle.std.specs.Prelude.{◌≡◌, ℕ, true, false, List, Some, None, Result, Ok, Err}
use Rattle.std.specs.List.{position}
use Rattle.ckd_track.specs.declared.geometries.Geometry.{Geometry}
use Rattle.volume_labels.specs.declared.fields.Extent.{Extent}
use Rattle.dasd_volumes.specs.Reading.{KnownVolume}
use Rattle.volume_contents.specs.declared.blocks.Block.{Block}
use Rattle.loaded_folders.specs.declared.old.LibrarySet.{LibrarySet}
use Rattle.volume_contents.specs.Sets.{DataSetOf, has_name}
use Rattle.loaded_folders.specs.Faults.{NewMemberFault}
use Rattle.changed_volumes.specs.declared.fault.ChangeFault.TheVariants as fault
use Rattle.loaded_folders.specs.declared.member_fault.NewMemberRefusal.TheVariants as refusal
use Rattle.loaded_folders.specs.Libraries.{library_block, kept_in, directory_blocks, IsNotWhole}
use Rattle.loaded_folders.specs.declared.added.OldLibrary.{OldLibrary}
use Rattle.changed_volumes.specs.declared.images.VolumeChange.TheVariants.{Delete}
use Rattle.changed_volumes.specs.Changes.{IsHinderedBy, changed_by}
use Rattle.loaded_sets.specs.declared.libraries.LoadedLibrary.{LoadedLibrary}
use Rattle.loaded_sets.specs.LoadedLibraries.{Loaded, Refuses as RefusesLibrary}
use Rattle.loaded_folders.specs.Added.{is_taken, list_in, IsNewLibrary}
use Rattle.loaded_folders.specs.MemberEntries.{EntrySaid}
use Rattle.loaded_folders.specs.declared.member_entries.KeptEntry.{KeptEntry}
use Rattle.loaded_folders.specs.Contents.{member_blocks, keyed_or_fault}
use Rattle.loaded_folders.specs.declared.added.AddedMember.{AddedMember}
use Rattle.ckd_track.specs.declared.model.DriveModel.{DriveModel}
use Rattle.volume_labels.specs.declared.layouts.Layout.{Layout}
use Rattle.record_tracks.specs.declared.blocks.Cut.{Cut}
use Rattle.loaded_sets.specs.declared.contents.NewSetForm.{NewSetForm}
use Rattle.loaded_sets.specs.declared.fault.ContentFault.{ContentFault}
use Rattle.loaded_sets.specs.declared.fault.Unmade.{Unmade}
use Rattle.loaded_sets.specs.declared.fault.Unmade.TheVariants as unmade
use Rattle.loaded_sets.specs.Contents.{blocks_fitting}

-- the data set of the library of a name, whose control block is among these
abbrev pub IsLibrarySet : Geometry → List Block → (name : List ℕ) → LibrarySet → Type 0
IsLibrarySet g blocks name library =
    (b : Block) × (library_block blocks (position (has_name name) blocks) ≡ Ok b) × DataSetOf blocks b library.set
    × (library.kept ≡ kept_in g b library.set.extents.items)

-- there is none for this reason, or something hinders it
abbrev pub IsNoLibrary : NewMemberFault → List Block → (name : List ℕ) → Type 0
IsNoLibrary (fault.Refused refusal.NoDataSet) blocks name = library_block blocks (position (has_name name) blocks) ≡ Err refusal.NoDataSet
IsNoLibrary (fault.Refused refusal.NotPartitioned) blocks name =
    library_block blocks (position (has_name name) blocks) ≡ Err refusal.NotPartitioned
IsNoLibrary f blocks name = IsHinderedBy f

-- so many blocks has the directory in these extents, if the slots of the volume are known
abbrev pub CountsBlocks : List Extent → KnownVolume → (count : ℕ) → Type 0
CountsBlocks extents v count = (slots : List (List ℕ)) → v.slots ≡ Some slots → count ≡ directory_blocks extents v.geometry slots

-- the library in these extents is not whole, or something hinders its being read
abbrev pub IsNotReadIn : NewMemberFault → List Extent → Geometry → (slots : List (List ℕ)) → Type 0
IsNotReadIn (fault.Refused (refusal.Read f)) extents g slots = IsNotWhole f extents g slots
IsNotReadIn f extents g slots = IsHinderedBy f

-- the file of a member has no blocks for this reason, or there is no memory
abbrev pub IsNoMember : Unmade → DriveModel → NewSetForm → AddedMember → Type 0
IsNoMember (unmade.Content f) model form added = member_blocks model form added ≡ Err f
IsNoMember unmade.OutOfMemory model form added = Unit {0}

-- blocks that fit, each with its lengths and its key
abbrev pub spelled : DriveModel → Layout → (key_length : ℕ) → Cut → (bytes : List ℕ) → Result (List ℕ) ContentFault
spelled model l key_length c bytes =
    keyed_or_fault (blocks_fitting model key_length (record { layout = l; cut = c; bytes = bytes }))

-- they do not fit for this reason, or there is no memory
abbrev pub IsUnspelled : Unmade → DriveModel → Layout → (key_length : ℕ) → Cut → (bytes : List ℕ) → Type 0
IsUnspelled (unmade.Content f) model l key_length c bytes = spelled model l key_length c bytes ≡ Err f
IsUnspelled unmade.OutOfMemory model l key_length c bytes = Unit {0}

-- an entry that the code has
abbrev pub kept : KeptEntry → EntrySaid
kept e = record { name = e.name; member = e.member; is_alias = e.is_alias; notes = e.notes.items; user_data = e.user_data.now }

-- no member of the old library has the name, no entry has a note list, and the file has these blocks for it
abbrev pub MakesBlocks : AddedMember → DriveModel → OldLibrary → (blocks : List ℕ) → Type 0
MakesBlocks added model old blocks =
    (is_taken added old ≡ false) × (list_in old ≡ None) × (member_blocks model old.form added ≡ Ok blocks)

-- one has, or the file has none, or there is no memory
abbrev pub IsNotMade : NewMemberFault → AddedMember → DriveModel → OldLibrary → Type 0
IsNotMade (fault.Refused refusal.NameTaken) added model old = is_taken added old ≡ true
IsNotMade (fault.Refused (refusal.NoteList n)) added model old = (is_taken added old ≡ false) × (list_in old ≡ Some n)
IsNotMade (fault.Refused (refusal.Content f)) added model old =
    (is_taken added old ≡ false) × (list_in old ≡ None) × (member_blocks model old.form added ≡ Err f)
IsNotMade f added model old = IsHinderedBy f

-- the data set is not deleted for this reason, or something hinders it
abbrev pub IsNotDeleted : NewMemberFault → (library : List ℕ) → Geometry → (slots : List (List ℕ)) → Type 0
IsNotDeleted (fault.Refused (refusal.Deletion r)) library g slots = changed_by (Delete library) g slots ≡ Err r
IsNotDeleted f library g slots = IsHinderedBy f

-- the library with these blocks is put onto a volume of these slots
abbrev pub PutsLibrary : AddedMember → OldLibrary → (blocks : List ℕ) → Geometry → (before : List (List ℕ)) → (tracks : ℕ)
    → (now : List (List ℕ)) → Type 0
PutsLibrary added old blocks g before tracks now =
    (l : LoadedLibrary) × IsNewLibrary added old blocks l × Loaded l g before tracks now

-- it is not, for this reason, or something hinders it
abbrev pub IsNotPut : NewMemberFault → AddedMember → OldLibrary → (blocks : List ℕ) → Geometry → (slots : List (List ℕ)) → Type 0
IsNotPut (fault.Refused (refusal.Load r)) added old blocks g slots =
    (l : LoadedLibrary) × IsNewLibrary added old blocks l × RefusesLibrary r l g slots
IsNotPut f added old blocks g slots = IsHinderedBy f
