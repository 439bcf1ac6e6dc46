-- What was read of a folder: its text, and the files of its data sets and of their members.
use Rattle.std.specs.Prelude.{◌≡◌, ◌⊎◌, ℕ, ◌≤◌, ◌<◌, List, [], ◌∷◌, ◌++◌, length, flat_map, codes, Ok, Err}
use Rattle.std.specs.String.{string_bytes}
use Rattle.dasd_jobs.specs.Sources.{SourceFile, ReadsFront}
use Rattle.dasd_jobs.specs.declared.faults.JobFault.TheVariants.{OutOfMemory}
use Rattle.dasd_unload.specs.Volumes.{path_in}
use Rattle.set_forms.specs.declared.forms.FormLine.{FormLine}
use Rattle.set_forms.specs.declared.fault.TextFault.TheVariants as wrong
use Rattle.set_forms.specs.Parsing.{parsed}
use Rattle.loaded_folders.specs.Faults.{FolderFault}
use Rattle.changed_volumes.specs.declared.fault.ChangeFault.TheVariants as fault
use Rattle.loaded_folders.specs.declared.fault.FolderRefusal.TheVariants as refusal
use Rattle.loaded_folders.specs.Sets.{SetLines, FolderSet, sets_of, file_names, with_files}

-- the name of the text
abbrev pub text_name : List ℕ
text_name = codes "data_sets.txt"

-- the first bytes of the text of a folder were read: all, and one more than it may have at most
abbrev pub ReadsText : (folder text : List ℕ) → (before now : List SourceFile) → Type 0
ReadsText folder text before now = ReadsFront (path_in folder text_name) 16777217 text before now

-- the text of a folder was read, which is no longer than it may be
pub record HasText (folder text : List ℕ) (before now : List SourceFile) : Type 0 where
  pub read : ReadsText folder text before now
  pub short : length text ≤ 16777216

-- a text is one of these data sets
pub record SaysSets (text : List ℕ) (sets : List SetLines) : Type 0 where
  pub forms : List FormLine
  pub parsed : parsed text ≡ Ok forms
  pub are : sets_of forms ≡ sets

-- Files of these names were read from a folder, one behind another: the first bytes of each, which are all where a volume has room for
-- them.
abbrev pub ReadsFiles : (folder : List ℕ) → (names bytes : List (List ℕ)) → (before now : List SourceFile) → Type 0
ReadsFiles folder [] [] before now = now ≡ before
ReadsFiles folder [] (b ∷ bytes) before now = ⊥
ReadsFiles folder (n ∷ names) [] before now = ⊥
ReadsFiles folder (n ∷ names) (b ∷ bytes) before now =
    (between : List SourceFile) × ReadsFront (path_in folder n) 9560245800 b before between × ReadsFiles folder names bytes between now

-- The text of a folder was read, which is one of these data sets, and of their files those before the others.
pub record ReadsBefore (folder : List ℕ) (sets : List SetLines) (others bytes : List (List ℕ)) (before now : List SourceFile) : Type 0 where
  pub text : List ℕ
  pub between : List SourceFile
  pub has : HasText folder text before between
  pub says : SaysSets text sets
  pub names : List (List ℕ)
  pub all : flat_map file_names sets ≡ names ++ others
  pub read : ReadsFiles folder names bytes between now

-- a folder has these data sets, all of which was read
abbrev pub ReadsFolder : (folder : List ℕ) → List FolderSet → (before now : List SourceFile) → Type 0
ReadsFolder folder sets before now =
    (lines : List SetLines) × (bytes : List (List ℕ)) × ReadsBefore folder lines [] bytes before now × (with_files lines bytes ≡ sets)

-- nothing was read of a folder, or its text, or also some of its files
abbrev pub ReadsSome : (folder : List ℕ) → (before now : List SourceFile) → Type 0
ReadsSome folder before now =
    (now ≡ before) ⊎ (((text : List ℕ) × ReadsText folder text before now)
    ⊎ ((sets : List SetLines) × (others : List (List ℕ)) × (bytes : List (List ℕ)) × ReadsBefore folder sets others bytes before now))

-- Why a folder is not read, and what was read of it until then: its text is too long, or a line of it is wrong; the text can't be read, or
-- the next of its files; or there is no memory.
abbrev pub IsUnread : FolderFault → (folder : List ℕ) → (before now : List SourceFile) → Type 0
IsUnread (fault.Refused refusal.TooLong) folder before now = (text : List ℕ) × ReadsText folder text before now × (16777216 < length text)
IsUnread (fault.Refused (refusal.Line number f)) folder before now =
    (text : List ℕ) × HasText folder text before now × (parsed text ≡ Err (wrong.Line number f))
IsUnread (fault.Refused (refusal.NoFile name)) folder before now =
    ((string_bytes name ≡ text_name) × (now ≡ before))
    ⊎ ((sets : List SetLines) × (others : List (List ℕ)) × (bytes : List (List ℕ))
    × ReadsBefore folder sets (string_bytes name ∷ others) bytes before now)
IsUnread (fault.Job f) folder before now = (f ≡ OutOfMemory) × ReadsSome folder before now
IsUnread f folder before now = ⊥
