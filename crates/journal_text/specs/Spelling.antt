-- What a journal says, and its one spelling.
use Rattle.std.specs.Prelude.{ℕ, ◌<◌, ◌^◌, List, [], ◌∷◌, ◌++◌, length, map, codes}
use Rattle.std.specs.List.{flat_map, AllByRecursion}
use Rattle.std.specs.Int.{w64, to_be_bytes}
use Rattle.sha2.specs.Sha256.{sha256}
use Rattle.atomic_save.specs.declared.changes.Change.{Change}
use Rattle.atomic_save.specs.declared.changes.FileId.{FileId}
use Rattle.atomic_save.specs.declared.changes.Journal.{Journal}
use Rattle.atomic_save.specs.declared.changes.JournalFile.{JournalFile}
use Rattle.atomic_save.specs.Changes.{Note, note_of}

-- a file of a journal, without where its name lies in memory
pub record Named : Type 0 where
  pub name : List ℕ
  pub id : FileId

-- what a journal says
pub record Said : Type 0 where
  pub files : List Named
  pub changes : List Note
  pub more : List ℕ

abbrev pub named_of : JournalFile → Named
named_of f = record { name = f.name.items; id = f.id }

abbrev pub all_named : List JournalFile → List Named
all_named fs = map named_of fs

abbrev pub all_notes : List Change → List Note
all_notes cs = map note_of cs

abbrev pub said_by : Journal → Said
said_by j = record { files = all_named j.files.items; changes = all_notes j.changes.items; more = j.more.items }

abbrev pub number : ℕ → List ℕ
number n = to_be_bytes w64 n

-- bytes after their number
abbrev pub string : List ℕ → List ℕ
string bytes = number (length bytes) ++ bytes

abbrev pub file_text : Named → List ℕ
file_text f = string f.name ++ (number f.id.device ++ (number f.id.inode ++ (number f.id.birth ++ number f.id.size)))

abbrev pub change_text : Note → List ℕ
change_text n = number n.file ++ (number n.at ++ string n.bytes)

-- texts one after the other, after their number
abbrev pub list_text : {X : Type 0} → (X → List ℕ) → List X → List ℕ
list_text text xs = number (length xs) ++ flat_map text xs

abbrev pub body : Said → List ℕ
body s = list_text file_text s.files ++ (list_text change_text s.changes ++ string s.more)

-- the first seven bytes of each version
abbrev pub tag : List ℕ
tag = codes "dasdsav"

abbrev pub version : ℕ
version = 1

-- the whole journal, of whose body these are the bytes
abbrev pub sealed : List ℕ → List ℕ
sealed bytes = tag ++ ((version ∷ []) ++ (number (length bytes) ++ (sha256 bytes ++ bytes)))

abbrev pub spelling : Said → List ℕ
spelling s = sealed (body s)

-- what has a spelling: numbers below 2 ^ 64
pub record FileFits (f : Named) : Type 0 where
  pub name : length f.name < 2 ^ 64
  pub device : f.id.device < 2 ^ 64
  pub inode : f.id.inode < 2 ^ 64
  pub birth : f.id.birth < 2 ^ 64
  pub size : f.id.size < 2 ^ 64

pub record NoteFits (n : Note) : Type 0 where
  pub file : n.file < 2 ^ 64
  pub at : n.at < 2 ^ 64
  pub bytes : length n.bytes < 2 ^ 64

pub record SaidFits (s : Said) : Type 0 where
  pub file_count : length s.files < 2 ^ 64
  pub files : AllByRecursion FileFits s.files
  pub change_count : length s.changes < 2 ^ 64
  pub changes : AllByRecursion NoteFits s.changes
  pub more : length s.more < 2 ^ 64
  pub whole : length (body s) < 2 ^ 64
