-- What of a folder is put onto a volume in files, and what that leaves and prints.
use Rattle.std.specs.Prelude.{◌≡◌, ◌⊎◌, ℕ, ◌==◌, not, if◌then◌else◌, bit_and, List, [], ◌∷◌, ◌++◌, map, slice_index_or, Option, Some, None, nat_lt, option_and_then, Result, Ok, Err, String}
use Rattle.std.specs.Global.{Global}
use Rattle.std.specs.String.{string_bytes}
use Rattle.ckd_track.specs.declared.geometries.Geometry.{Geometry}
use Rattle.dasd_jobs.specs.Sources.{SourceFile}
use Rattle.dasd_unload.specs.Unloads.{file_name}
use Rattle.set_forms.specs.declared.forms.SetForm.{SetForm}
use Rattle.set_forms.specs.declared.forms.SetDetails.{SetDetails}
use Rattle.changed_volumes.specs.Changes.{Changing, IsNotDone}
use Rattle.changed_volumes.specs.Files.{Around, TellsChange}
use Rattle.loaded_sets.specs.declared.contents.LoadedSet.{LoadedSet}
use Rattle.loaded_sets.specs.declared.contents.NewSetForm.{NewSetForm}
use Rattle.loaded_sets.specs.Contents.{new_label}
use Rattle.loaded_sets.specs.declared.contents.SourceForm.{SourceForm}
use Rattle.loaded_sets.specs.declared.fault.LoadRefusal.{LoadRefusal}
use Rattle.loaded_sets.specs.Loaded as set
use Rattle.loaded_sets.specs.Loads.{loaded_line}
use Rattle.loaded_sets.specs.declared.libraries.LoadedLibrary.{LoadedLibrary}
use Rattle.loaded_sets.specs.LoadedLibraries as library
use Rattle.loaded_folders.specs.Faults.{FolderFault}
use Rattle.loaded_folders.specs.declared.fault.Uncarried.{Uncarried}
use Rattle.loaded_folders.specs.declared.fault.Uncarried.TheVariants.{Direct, Indexed, Part, Shared, UserLabels}
use Rattle.loaded_folders.specs.declared.fault.FolderRefusal.{FolderRefusal}
use Rattle.loaded_folders.specs.declared.fault.FolderRefusal.TheVariants as refusal
use Rattle.loaded_folders.specs.declared.saves.NewFolder.{NewFolder}
use Rattle.loaded_folders.specs.Sets.{FolderSet}
use Rattle.loaded_folders.specs.Entries.{EntryRefused, entries_of, member_parts}
use Rattle.loaded_folders.specs.Reading.{ReadsFolder, IsUnread}

-- what the label of a data set is to say, by its line
abbrev pub form_of : SetForm → NewSetForm
form_of s = record {
  organisation = s.organisation;
  attributes = record { format = s.format; record_length = s.record_length; block_length = s.block_length };
  key_length = s.key_length;
  created = s.created;
  expires = s.expires;
}

-- why a folder does not carry a data set, by what its line says of its volume and its extents: the other parts of one on several volumes, which
-- cylinders are shared, and user labels are not in it
abbrev pub undetailed : SetDetails → Option Uncarried
undetailed d =
    if nat_lt 1 d.volume then Some (Part d.volume)
    else (if not (bit_and d.extents 0x80 == 0) then Some Shared
    else (if not (bit_and d.extents 0x40 == 0) then Some UserLabels
    else None))

-- Why a folder does not carry a data set: the blocks of a direct one are found by their places, and an indexed one has indexes (DS1DSORG); or
-- what its line says of its volume and its extents.
abbrev pub uncarried : SetForm → Option Uncarried
uncarried s =
    if not (bit_and s.organisation 0x2000 == 0) then Some Direct
    else (if not (bit_and s.organisation 0x8000 == 0) then Some Indexed
    else option_and_then undetailed s.details)

-- a data set of a folder as one that is loaded: it has the bytes of its file
pub record IsSequential (source : SourceForm) (s : FolderSet) (l : LoadedSet) : Type 0 where
  pub name : l.name ≡ s.lines.form.name
  pub form : l.form ≡ form_of s.lines.form
  pub kept : l.kept ≡ new_label
  pub source_is : l.source ≡ source
  pub bytes : l.bytes.now ≡ slice_index_or s.files 0 []

-- the same of one with a directory of so many blocks: it has the entries of its lines, and the bytes of the files of its members
pub record IsPartitioned (source : SourceForm) (s : FolderSet) (blocks : ℕ) (l : LoadedLibrary) : Type 0 where
  pub name : l.name ≡ s.lines.form.name
  pub form : l.form ≡ form_of s.lines.form
  pub kept : l.kept ≡ new_label
  pub source_is : l.source ≡ source
  pub directory : l.directory_blocks ≡ blocks
  pub entries : entries_of s.lines.entries ≡ Ok (map member_parts l.entries.now)
  pub members : map (λ m. m.now) l.members.now ≡ s.files

-- a volume gets a data set: a library, where its line says how many blocks its directory has
abbrev pub GetsBy : (directory : Option ℕ) → SourceForm → FolderSet → Geometry → (before : List (List ℕ)) → (tracks : ℕ)
    → (now : List (List ℕ)) → Type 0
GetsBy None source s g before tracks now = (l : LoadedSet) × IsSequential source s l × set.Loaded l g before tracks now
GetsBy (Some blocks) source s g before tracks now =
    (l : LoadedLibrary) × IsPartitioned source s blocks l × library.Loaded l g before tracks now

-- a volume gets a data set of a folder, which carries it
abbrev pub GetsOne : SourceForm → FolderSet → Geometry → (before : List (List ℕ)) → (tracks : ℕ) → (now : List (List ℕ)) → Type 0
GetsOne source s g before tracks now = (uncarried s.lines.form ≡ None) × GetsBy s.lines.form.directory source s g before tracks now

-- what is printed of a data set with so many tracks: its name is that of its file
abbrev pub line_of : FolderSet → (tracks : ℕ) → List ℕ
line_of s tracks = loaded_line (file_name s.lines.form.name None) tracks

-- A volume gets data sets one behind another, each as the one before left it; and these are the lines of them.
abbrev pub GetsAll : SourceForm → List FolderSet → Geometry → (before now : List (List ℕ)) → (lines : List ℕ) → Type 0
GetsAll source [] g before now lines = (now ≡ before) × (lines ≡ [])
GetsAll source (s ∷ sets) g before now lines =
    (tracks : ℕ) × (between : List (List ℕ)) × (more : List ℕ) × GetsOne source s g before tracks between
    × GetsAll source sets g between now more × (lines ≡ line_of s tracks ++ more)

-- the volume does not get a data set, for this reason
abbrev pub RefusesBy : (directory : Option ℕ) → LoadRefusal → SourceForm → FolderSet → Geometry → (slots : List (List ℕ)) → Type 0
RefusesBy None r source s g slots = (l : LoadedSet) × IsSequential source s l × set.Refuses r l g slots
RefusesBy (Some blocks) r source s g slots = (l : LoadedLibrary) × IsPartitioned source s blocks l × library.Refuses r l g slots

-- an entry of this name of a data set that has a directory is the first that leads nowhere, for this reason
abbrev pub EndsAt : (directory : Option ℕ) → FolderSet → EntryRefused → Type 0
EndsAt None s e = ⊥
EndsAt (Some blocks) s e = entries_of s.lines.entries ≡ Err e

-- a data set is not loaded, for this reason, and is told by the name of its file, or of that of the entry
abbrev pub IsRefusedBy : (directory : Option ℕ) → FolderRefusal → SourceForm → FolderSet → Geometry → (slots : List (List ℕ)) → Type 0
IsRefusedBy directory (refusal.Load name r) source s g slots =
    (string_bytes name ≡ file_name s.lines.form.name None) × RefusesBy directory r source s g slots
IsRefusedBy directory (refusal.Entry name f) source s g slots =
    (e : List ℕ) × (string_bytes name ≡ file_name s.lines.form.name (Some e)) × EndsAt directory s (record { name = e; fault = f })
IsRefusedBy directory r source s g slots = ⊥

-- the folder does not carry a data set, for this reason, and it is told by the name of its file; or it does, and it is not loaded
abbrev pub IsRefusedOne : FolderRefusal → SourceForm → FolderSet → Geometry → (slots : List (List ℕ)) → Type 0
IsRefusedOne (refusal.Uncarried name why) source s g slots =
    (string_bytes name ≡ file_name s.lines.form.name None) × (uncarried s.lines.form ≡ Some why)
IsRefusedOne r source s g slots = (uncarried s.lines.form ≡ None) × IsRefusedBy s.lines.form.directory r source s g slots

-- One of the data sets is not loaded, behind those before it.
pub record StopsAt (r : FolderRefusal) (source : SourceForm) (sets : List FolderSet) (g : Geometry) (slots : List (List ℕ)) : Type 0 where
  pub done : List FolderSet
  pub next : FolderSet
  pub others : List FolderSet
  pub all : sets ≡ done ++ next ∷ others
  pub between : List (List ℕ)
  pub lines : List ℕ
  pub loaded : GetsAll source done g slots between lines
  pub refused : IsRefusedOne r source next g between

-- why the data sets of a folder are not put onto a volume in memory: one is not loaded; or something hinders it
abbrev pub IsStopped : FolderFault → SourceForm → List FolderSet → Geometry → (slots : List (List ℕ)) → Type 0
IsStopped f source sets g slots = IsNotDone f (λ r. StopsAt r source sets g slots)

-- data sets are put onto a volume, and their lines are answered
abbrev pub loading_all : SourceForm → List FolderSet → Changing (String Global) FolderRefusal
loading_all source sets = record {
  makes = λ g before lines now. GetsAll source sets g before now (string_bytes lines);
  refuses = λ r g slots. StopsAt r source sets g slots;
}

-- files were opened, none was written, and nothing was printed
abbrev pub with_opened : Around → List SourceFile → Around
with_opened a opened = record a { opened = opened }

-- The data sets of a folder are put onto the volume in files; or the folder is not read, and no other file is opened, none written and
-- nothing printed.
abbrev pub LoadsFolder : {A : Type 0} → Result A FolderFault → NewFolder → (paths : List (List ℕ)) → (before now : Around) → Type 0
LoadsFolder result asked paths before now =
    ((f : FolderFault) × (result ≡ Err f) × IsUnread f asked.folder.now before.opened now.opened × (now ≡ with_opened before now.opened))
    ⊎ ((sets : List FolderSet) × (between : List SourceFile) × ReadsFolder asked.folder.now sets before.opened between
    × TellsChange result (loading_all asked.source sets) paths string_bytes (with_opened before between) now)
