-- The files that a text loads: which of them are read, and why they are too many.
use Rattle.std.specs.Prelude.{◌≡◌, ◌⊎◌, ◌<◌, ℕ, ◌+◌, List, [], ◌∷◌, ◌++◌, length, take, Option, Some, None, Result, Ok, Err}
use Rattle.std.specs.Global.{Vec}
use Rattle.dasd_jobs.specs.Sources.{SourceFile, ReadsFront}
use Rattle.s360_assembler.specs.declared.fault.AssemblyFault.{AssemblyFault}
use Rattle.s360_assembler.specs.declared.fault.AssemblyFault.TheVariants as assembly
use Rattle.s360_assembler.specs.declared.files.LoadableFile.{LoadableFile}

-- The files of these names were opened and read one after another, of each its first 524,289 bytes or all; those that can't be read are left
-- out. No other file was opened.
abbrev pub LoadsFiles : (names : List (List ℕ)) → (loaded : List LoadableFile) → (before now : List SourceFile) → Type 0
LoadsFiles [] loaded before now = (loaded ≡ []) × (now ≡ before)
LoadsFiles (name ∷ names) loaded before now =
    LoadsFiles names loaded before now
    ⊎ ((file : LoadableFile) × (more : List LoadableFile) × (between : List SourceFile) × (loaded ≡ file ∷ more)
    × (file.name.items ≡ name) × ReadsFront name 524289 file.bytes.items before between × LoadsFiles names more between now)

-- the file of a name was read, as far as so many bytes; or none was opened
abbrev pub ReadsNamed : Result (Option LoadableFile) AssemblyFault → (name : List ℕ) → (before now : List SourceFile) → Type 0
ReadsNamed (Ok (Some file)) name before now = (file.name.items ≡ name) × ReadsFront name 524289 file.bytes.items before now
ReadsNamed (Ok None) name before now = now ≡ before
ReadsNamed (Err f) name before now = (f ≡ assembly.OutOfMemory) × (now ≡ before)

-- the bytes of all these files
abbrev pub bytes_of : List LoadableFile → ℕ
bytes_of [] = 0
bytes_of (file ∷ loaded) = length file.bytes.items + bytes_of loaded

-- these files, and one more, if there is one
abbrev pub with_loaded : List LoadableFile → Option LoadableFile → List LoadableFile
with_loaded loaded None = loaded
with_loaded loaded (Some file) = loaded ++ file ∷ []

-- its bytes
abbrev pub size_loaded : Option LoadableFile → ℕ
size_loaded None = 0
size_loaded (Some file) = length file.bytes.items

-- A file, if there is one, was added to those before, and so many bytes more may be loaded; or it has more than were left, or there is no
-- memory.
abbrev pub AddsLoaded : Result ℕ AssemblyFault → Option LoadableFile → (left : ℕ) → (before now : List LoadableFile) → Type 0
AddsLoaded (Ok more) file left before now = (now ≡ with_loaded before file) × (more + size_loaded file ≡ left)
AddsLoaded (Err f) file left before now =
    (f ≡ assembly.OutOfMemory) ⊎ ((f ≡ assembly.TooLong) × (left < size_loaded file))

-- Why files are not loaded: those that were read have more than 524,288 bytes together, so that the deck would be too long; or there is no memory.
abbrev pub NotLoaded : AssemblyFault → (loaded : List LoadableFile) → Type 0
NotLoaded assembly.TooLong loaded = 524288 < bytes_of loaded
NotLoaded assembly.OutOfMemory loaded = Unit {0}
NotLoaded f loaded = ⊥

-- All the files of these names were loaded; or the first of them, and no more, for this reason.
abbrev pub Loads : Result (Vec LoadableFile) AssemblyFault → (names : List (List ℕ)) → (before now : List SourceFile) → Type 0
Loads (Ok loaded) names before now = LoadsFiles names loaded.items before now
Loads (Err f) names before now =
    (number : ℕ) × (loaded : List LoadableFile) × LoadsFiles (take number names) loaded before now × NotLoaded f loaded
