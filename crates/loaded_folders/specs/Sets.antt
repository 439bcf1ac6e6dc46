-- The data sets of a folder, by the lines of its text.
use Rattle.std.specs.Prelude.{ℕ, List, [], ◌∷◌, length, take, drop, map, filter, Option, Some, None, is_none}
use Rattle.set_forms.specs.declared.forms.SetForm.{SetForm}
use Rattle.set_forms.specs.declared.forms.EntryForm.{EntryForm}
use Rattle.set_forms.specs.declared.forms.FormLine.{FormLine}
use Rattle.set_forms.specs.declared.forms.FormLine.TheVariants.{Set, Entry}
use Rattle.dasd_unload.specs.Unloads.{file_name}

-- a data set of a text: its line, and those of the entries of its directory
pub record SetLines : Type 0 where
  pub form : SetForm
  pub entries : List EntryForm

-- the entries before the next data set
abbrev pub entries_front : List FormLine → List EntryForm
entries_front [] = []
entries_front (Set s ∷ lines) = []
entries_front (Entry e ∷ lines) = e ∷ entries_front lines

-- the data sets of lines, each with the entries behind it
abbrev pub sets_of : List FormLine → List SetLines
sets_of [] = []
sets_of (Set s ∷ lines) = record { form = s; entries = entries_front lines } ∷ sets_of lines
sets_of (Entry e ∷ lines) = sets_of lines

-- the names of members: those of the entries that are no other names
abbrev pub members_of : List EntryForm → List (List ℕ)
members_of entries = map (λ e. e.name) (filter (λ e. is_none e.member) entries)

-- the names of the files of a data set's members
abbrev pub member_names : (data_set : List ℕ) → List EntryForm → List (List ℕ)
member_names data_set entries = map (λ m. file_name data_set (Some m)) (members_of entries)

-- the names of the files of a data set: its own, or of a library those of its members
abbrev pub names_by : (directory : Option ℕ) → SetLines → List (List ℕ)
names_by None s = file_name s.form.name None ∷ []
names_by (Some blocks) s = member_names s.form.name s.entries

abbrev pub file_names : SetLines → List (List ℕ)
file_names s = names_by s.form.directory s

-- a data set of a folder: its lines, and the bytes of its file, or of those of its members
pub record FolderSet : Type 0 where
  pub lines : SetLines
  pub files : List (List ℕ)

-- data sets with the bytes of their files, which stand one behind another
abbrev pub with_files : List SetLines → (files : List (List ℕ)) → List FolderSet
with_files [] files = []
with_files (s ∷ sets) files =
    record { lines = s; files = take (length (file_names s)) files } ∷ with_files sets (drop (length (file_names s)) files)
