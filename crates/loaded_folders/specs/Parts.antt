-- How the code holds what the contracts speak of; no public contract names these.
use Rattle.std.specs.Prelude.{◌≡◌, ◌⊎◌, ℕ, ◌<◌, List, ◌∷◌, ◌++◌, length, map, Option, Some, None, Result, Ok, Err}
use Rattle.std.specs.String.{string_bytes}
use Rattle.dasd_jobs.specs.declared.faults.JobFault.TheVariants.{OutOfMemory}
use Rattle.ckd_track.specs.declared.geometries.Geometry.{Geometry}
use Rattle.dasd_jobs.specs.Sources.{SourceFile}
use Rattle.dasd_unload.specs.Unloads.{file_name}
use Rattle.set_forms.specs.declared.fault.TextFault.TheVariants as wrong
use Rattle.set_forms.specs.Parsing.{parsed}
use Rattle.changed_volumes.specs.Changes.{IsNotDone}
use Rattle.changed_volumes.specs.Files.{Around, TellsChange}
use Rattle.loaded_sets.specs.declared.contents.SourceForm.{SourceForm}
use Rattle.loaded_sets.specs.Faults.{LoadFault}
use Rattle.loaded_folders.specs.declared.entries.FolderEntry.{FolderEntry}
use Rattle.loaded_folders.specs.declared.entries.Unled.{Unled}
use Rattle.loaded_folders.specs.declared.entries.Unled.TheVariants as unled
use Rattle.loaded_folders.specs.Faults.{FolderFault}
use Rattle.changed_volumes.specs.declared.fault.ChangeFault.TheVariants as fault
use Rattle.loaded_folders.specs.declared.fault.FolderRefusal.TheVariants as refusal
use Rattle.loaded_folders.specs.declared.fault.FolderEntryFault.{FolderEntryFault}
use Rattle.loaded_folders.specs.declared.fault.Uncarried.{Uncarried}
use Rattle.loaded_folders.specs.declared.sets.SetLines as declared_lines
use Rattle.loaded_folders.specs.declared.sets.FolderSet as declared
use Rattle.loaded_folders.specs.Sets.{SetLines, FolderSet}
use Rattle.loaded_folders.specs.Entries.{EntryParts, EntryRefused}
use Rattle.loaded_folders.specs.Reading.{text_name, ReadsText, ReadsFiles}
use Rattle.loaded_folders.specs.Loads.{IsRefusedBy, IsRefusedOne, loading_all}

-- the data set of a text that the code has
abbrev pub lines_of : declared_lines.SetLines → SetLines
lines_of s = record { form = s.form; entries = map (λ e. e.now) s.entries.items }

-- the data set of a folder that the code has
abbrev pub folder_set : declared.FolderSet → FolderSet
folder_set s = record { lines = lines_of s.lines.now; files = map (λ f. f.items) s.files.now }

-- the entry that the code has
abbrev pub folder_entry : FolderEntry → EntryParts
folder_entry e = record { name = e.name; member = e.member; is_alias = e.is_alias; notes = e.notes.items; user = e.user.now }

-- this is why an entry, or its notes, lead nowhere, or there is no memory
abbrev pub IsUnled : {A : Type 0} → Unled → Result A FolderEntryFault → Type 0
IsUnled (unled.Fault f) made = made ≡ Err f
IsUnled unled.OutOfMemory made = Unit {0}

-- there is no memory
abbrev pub IsNoMemory : FolderFault → Type 0
IsNoMemory f = f ≡ fault.Job OutOfMemory

-- the fault of this entry is told by the name of its file, or there is no memory
abbrev pub TellsUnled : FolderFault → (data_set entry : List ℕ) → Unled → Type 0
TellsUnled (fault.Refused (refusal.Entry name f)) data_set entry why = (string_bytes name ≡ file_name data_set (Some entry)) × (why ≡ unled.Fault f)
TellsUnled (fault.Job f) data_set entry why = f ≡ OutOfMemory
TellsUnled f data_set entry why = ⊥

-- the fault of the first entry that leads nowhere is told by the name of its file
abbrev pub TellsEntry : FolderFault → (data_set : List ℕ) → Result (List EntryParts) EntryRefused → Type 0
TellsEntry (fault.Refused (refusal.Entry name f)) data_set made =
    (e : List ℕ) × (string_bytes name ≡ file_name data_set (Some e)) × (made ≡ Err (record { name = e; fault = f }))
TellsEntry (fault.Job f) data_set made = f ≡ OutOfMemory
TellsEntry f data_set made = ⊥

-- the file of this name is not read, or there is no memory
abbrev pub IsNoFile : FolderFault → (name : List ℕ) → Type 0
IsNoFile (fault.Refused (refusal.NoFile told)) name = string_bytes told ≡ name
IsNoFile (fault.Job f) name = f ≡ OutOfMemory
IsNoFile f name = ⊥

-- the text of a folder is not read or too long, or there is no memory
abbrev pub HasNoText : FolderFault → (folder : List ℕ) → (before now : List SourceFile) → Type 0
HasNoText (fault.Refused refusal.TooLong) folder before now = (text : List ℕ) × ReadsText folder text before now × (16777216 < length text)
HasNoText f folder before now = IsNoFile f text_name × (now ≡ before)

-- the first line that is wrong is told, or there is no memory
abbrev pub IsWrong : FolderFault → (text : List ℕ) → Type 0
IsWrong (fault.Refused (refusal.Line number f)) text = parsed text ≡ Err (wrong.Line number f)
IsWrong (fault.Job f) text = f ≡ OutOfMemory
IsWrong f text = ⊥

-- the first files of these names were read, before others
pub record ReadsFirst (folder : List ℕ) (names others : List (List ℕ)) (before now : List SourceFile) : Type 0 where
  pub first : List (List ℕ)
  pub bytes : List (List ℕ)
  pub all : names ≡ first ++ others
  pub read : ReadsFiles folder first bytes before now

-- the next of these files is not read, or there is no memory
abbrev pub StopsReading : FolderFault → (folder : List ℕ) → (names : List (List ℕ)) → (before now : List SourceFile) → Type 0
StopsReading (fault.Refused (refusal.NoFile told)) folder names before now =
    (others : List (List ℕ)) × ReadsFirst folder names (string_bytes told ∷ others) before now
StopsReading (fault.Job f) folder names before now =
    (f ≡ OutOfMemory) × (others : List (List ℕ)) × ReadsFirst folder names others before now
StopsReading f folder names before now = ⊥

-- the fault of a data set is told by the name of its file, or there is no memory for that
abbrev pub IsToldOf : FolderFault → (name : List ℕ) → LoadFault → Type 0
IsToldOf (fault.Refused (refusal.Load told r)) name f = (string_bytes told ≡ file_name name None) × (f ≡ fault.Refused r)
IsToldOf (fault.Job other) name f = (other ≡ OutOfMemory) ⊎ (f ≡ fault.Job other)
IsToldOf (fault.Save other) name f = f ≡ fault.Save other
IsToldOf told name f = ⊥

-- a data set that has such a directory is not loaded for this reason, or something hinders it
abbrev pub IsNotBy : (directory : Option ℕ) → FolderFault → SourceForm → FolderSet → Geometry → (slots : List (List ℕ)) → Type 0
IsNotBy directory f source s g slots = IsNotDone f (λ r. IsRefusedBy directory r source s g slots)

abbrev pub IsNotOne : FolderFault → SourceForm → FolderSet → Geometry → (slots : List (List ℕ)) → Type 0
IsNotOne f source s g slots = IsNotDone f (λ r. IsRefusedOne r source s g slots)

-- it is told by the name of its file why a folder does not carry a data set, or there is no memory for that
abbrev pub IsUncarried : FolderFault → (name : List ℕ) → Uncarried → Type 0
IsUncarried (fault.Refused (refusal.Uncarried told why)) name is = (string_bytes told ≡ file_name name None) × (why ≡ is)
IsUncarried (fault.Job other) name is = other ≡ OutOfMemory
IsUncarried told name is = ⊥

-- there was no memory, and nothing was done; or the data sets of a folder are put onto the volume in files
abbrev pub TellsRead : {A : Type 0} → Result A FolderFault → SourceForm → List FolderSet → (paths : List (List ℕ))
    → (before now : Around) → Type 0
TellsRead result source sets paths before now =
    ((result ≡ Err (fault.Job OutOfMemory)) × (now ≡ before)) ⊎ TellsChange result (loading_all source sets) paths string_bytes before now
