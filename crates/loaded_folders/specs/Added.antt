-- A library with a member that was put into it.
use Rattle.std.specs.Prelude.{◌≡◌, ℕ, Bool, true, false, List, [], ◌∷◌, ◌++◌, map, length, Option, Some, None, Ok, Err}
use Rattle.std.specs.Global.{Vec}
use Rattle.ckd_track.specs.declared.geometries.Geometry.{Geometry}
use Rattle.changed_volumes.specs.declared.images.VolumeChange.TheVariants.{Delete}
use Rattle.changed_volumes.specs.Changes.{IsNotDone, changed_by}
use Rattle.loaded_sets.specs.declared.contents.SourceForm.TheVariants.{WithLengths}
use Rattle.loaded_sets.specs.declared.libraries.LoadedLibrary.{LoadedLibrary}
use Rattle.loaded_sets.specs.LoadedLibraries.{Loaded, Refuses as RefusesLibrary}
use Rattle.loaded_folders.specs.declared.added.AddedMember.{AddedMember}
use Rattle.loaded_folders.specs.declared.added.OldLibrary.{OldLibrary}
use Rattle.loaded_folders.specs.Faults.{NewMemberFault}
use Rattle.loaded_folders.specs.declared.member_fault.NewMemberRefusal.{NewMemberRefusal}
use Rattle.loaded_folders.specs.declared.member_fault.NewMemberRefusal.TheVariants as refusal
use Rattle.loaded_folders.specs.Libraries.{IsOld, RefusesOld}
use Rattle.loaded_folders.specs.MemberEntries.{said_by, new_entry, with_entry, names_member, note_list}
use Rattle.loaded_folders.specs.Contents.{member_blocks}

-- The library that is put onto the volume: the name, the label, the tracks and the directory's size of the old one; its entries, with one for the new
-- member; and its members, with the new one behind them, each with the lengths and the keys of its blocks.
pub record IsNewLibrary (added : AddedMember) (old : OldLibrary) (blocks : List ℕ) (l : LoadedLibrary) : Type 0 where
  pub name : l.name ≡ added.library
  pub form : l.form ≡ old.form
  pub kept : l.kept ≡ old.kept
  pub source : l.source ≡ WithLengths
  pub directory_blocks : l.directory_blocks ≡ old.directory_blocks
  pub entries : map said_by l.entries.now
      ≡ with_entry (new_entry added.name (length old.contents.members.items)) old.contents.entries.items
  pub members : map (λ m. m.now) l.members.now ≡ map (λ (m : Vec ℕ). m.items) old.contents.members.items ++ blocks ∷ []

-- a member of the old library has the name
abbrev pub is_taken : AddedMember → OldLibrary → Bool
is_taken added old = names_member added.name old.contents.entries.items

-- the first entry of it that leads to a note list, a block that has addresses of others itself; its number, from 1 on
abbrev pub list_in : OldLibrary → Option ℕ
list_in old = note_list old.contents.entries.items

-- A volume of these slots has the library; no member of it has the name; no entry of it leads to a note list; and the file has these blocks
-- for the member.
pub record HasNew (added : AddedMember) (g : Geometry) (slots : List (List ℕ)) (old : OldLibrary) (blocks : List ℕ) : Type 0 where
  pub library : IsOld added.library g slots old
  pub free : is_taken added old ≡ false
  pub plain : list_in old ≡ None
  pub made : member_blocks g.model old.form added ≡ Ok blocks

-- behind the deletion of the old data set the slots are these, onto which this library is to be put
pub record IsDeleted (added : AddedMember) (g : Geometry) (before between : List (List ℕ)) (l : LoadedLibrary) : Type 0 where
  pub library : OldLibrary
  pub blocks : List ℕ
  pub new : HasNew added g before library blocks
  pub deleted : changed_by (Delete added.library) g before ≡ Ok between
  pub is : IsNewLibrary added library blocks l

-- The old data set is deleted, and the library with the new member is put onto the volume.
pub record Added (added : AddedMember) (g : Geometry) (before : List (List ℕ)) (tracks : ℕ) (now : List (List ℕ)) : Type 0 where
  pub between : List (List ℕ)
  pub library : LoadedLibrary
  pub deleted : IsDeleted added g before between library
  pub loaded : Loaded library g between tracks now

-- Why a library does not get a member: it is not there or not whole; a member of it has the name; an entry of it leads to a note list, whose
-- addresses would be wrong behind it; the file has no blocks for it; its data set is not deleted; or the library with the member is not put onto the volume.
abbrev pub Refuses : NewMemberRefusal → AddedMember → Geometry → (slots : List (List ℕ)) → Type 0
Refuses refusal.NameTaken added g slots = (old : OldLibrary) × IsOld added.library g slots old × (is_taken added old ≡ true)
Refuses (refusal.NoteList n) added g slots =
    (old : OldLibrary) × IsOld added.library g slots old × (is_taken added old ≡ false) × (list_in old ≡ Some n)
Refuses (refusal.Content f) added g slots =
    (old : OldLibrary) × IsOld added.library g slots old × (is_taken added old ≡ false) × (list_in old ≡ None)
    × (member_blocks g.model old.form added ≡ Err f)
Refuses (refusal.Deletion r) added g slots =
    (old : OldLibrary) × (blocks : List ℕ) × HasNew added g slots old blocks × (changed_by (Delete added.library) g slots ≡ Err r)
Refuses (refusal.Load r) added g slots =
    (between : List (List ℕ)) × (l : LoadedLibrary) × IsDeleted added g slots between l × RefusesLibrary r l g between
Refuses r added g slots = RefusesOld r added.library g slots

-- it is refused so, or something hinders it
abbrev pub IsNotAdded : NewMemberFault → AddedMember → Geometry → (slots : List (List ℕ)) → Type 0
IsNotAdded f added g slots = IsNotDone f (λ r. Refuses r added g slots)
