-- A library as it is read.
use Rattle.std.specs.Prelude.{◌≡◌, ℕ, List, map, Option, Some, None, Result, Ok, Err}
use Rattle.std.specs.List.{position}
use Rattle.volume_labels.specs.declared.fields.Extent.{Extent}
use Rattle.dasd_volumes.specs.Reading.{KnownVolume}
use Rattle.dasd_extract.specs.Members.{directory}
use Rattle.dasd_extract.specs.Walk.{source_written}
use Rattle.library_contents.specs.declared.contents.ReadEntry.{ReadEntry}
use Rattle.library_contents.specs.declared.contents.LibraryContents.{LibraryContents}
use Rattle.library_contents.specs.declared.contents.LibraryReadFault.{LibraryReadFault}
use Rattle.library_contents.specs.declared.contents.LibraryReadFault.TheVariants.{Volume, Directory, Member, ShortUserData, NoBlock}
use Rattle.library_contents.specs.declared.directories.PlacedEntry.{PlacedEntry}
use Rattle.library_contents.specs.Blocks.{whole_bytes}
use Rattle.library_contents.specs.Directories.{placed_entries}
use Rattle.library_contents.specs.Members.{Library, library_on, blocks_at, buffers, same_address, starts_of}
use Rattle.library_contents.specs.Entries.{said_by, entries_read}

-- the bytes of the directory, if an end of file ends its blocks
abbrev pub directory_bytes : Library → Option (List ℕ)
directory_bytes l = whole_bytes (source_written (directory l.extents) l.geometry l.slots)

-- the number of the member of an entry: the place of its address among those that entries name
abbrev pub member_of : List PlacedEntry → PlacedEntry → Option ℕ
member_of placed p = position (same_address p.entry.address) (starts_of placed)

-- the numbers of the members of entries
abbrev pub numbers_in : List ReadEntry → List (Option ℕ)
numbers_in entries = map (λ (e : ReadEntry). Some e.member) entries

-- What is read of a library whose directory has these bytes and these entries: each entry in order, the number of its member, and each
-- member once, up to its end of file.
pub record IsContents (l : Library) (bytes : List ℕ) (placed : List PlacedEntry) (c : LibraryContents) : Type 0 where
  pub entries : entries_read l bytes 1 placed ≡ Ok (map said_by c.entries.items)
  pub numbers : numbers_in c.entries.items ≡ map (member_of placed) placed
  pub members : buffers c.members.items ≡ map (blocks_at l) (starts_of placed)

-- the first fault of its entries
abbrev pub IsFault : Library → (bytes : List ℕ) → List PlacedEntry → LibraryReadFault → Type 0
IsFault l bytes placed (Volume fault) = Unit {0}
IsFault l bytes placed Directory = ⊥
IsFault l bytes placed (Member number) = entries_read l bytes 1 placed ≡ Err (Member number)
IsFault l bytes placed (ShortUserData number) = entries_read l bytes 1 placed ≡ Err (ShortUserData number)
IsFault l bytes placed (NoBlock number) = entries_read l bytes 1 placed ≡ Err (NoBlock number)

-- its contents, or that fault
abbrev pub GivesContents : Library → (bytes : List ℕ) → List PlacedEntry → Result LibraryContents LibraryReadFault → Type 0
GivesContents l bytes placed (Ok contents) = IsContents l bytes placed contents
GivesContents l bytes placed (Err fault) = IsFault l bytes placed fault

-- the same of a library on a volume, if its slots are known
abbrev pub ReadsEntries : List Extent → KnownVolume → (bytes : List ℕ) → List PlacedEntry → Result LibraryContents LibraryReadFault → Type 0
ReadsEntries extents v bytes placed result = (slots : List (List ℕ)) → v.slots ≡ Some slots
    → GivesContents (library_on extents v.geometry slots) bytes placed result

-- a directory that is not whole is refused; a fault of the volume, and want of memory, come at any time
abbrev pub IsRefused : Result LibraryContents LibraryReadFault → Type 0
IsRefused (Ok contents) = ⊥
IsRefused (Err (Volume fault)) = Unit {0}
IsRefused (Err Directory) = Unit {0}
IsRefused (Err (Member number)) = ⊥
IsRefused (Err (ShortUserData number)) = ⊥
IsRefused (Err (NoBlock number)) = ⊥

-- what is read of a library, by what its directory has
abbrev pub GivesPlaced : Library → (bytes : List ℕ) → Option (List PlacedEntry) → Result LibraryContents LibraryReadFault → Type 0
GivesPlaced l bytes None result = IsRefused result
GivesPlaced l bytes (Some placed) result = GivesContents l bytes placed result

-- the same, by the blocks of its directory
abbrev pub GivesLibrary : Library → (bytes : Option (List ℕ)) → Result LibraryContents LibraryReadFault → Type 0
GivesLibrary l None result = IsRefused result
GivesLibrary l (Some bytes) result = GivesPlaced l bytes (placed_entries bytes) result

-- a library on a volume whose directory has these bytes, if its slots are known
abbrev pub ReadsPlaced : List Extent → KnownVolume → (bytes : List ℕ) → Result LibraryContents LibraryReadFault → Type 0
ReadsPlaced extents v bytes result = (slots : List (List ℕ)) → v.slots ≡ Some slots
    → GivesPlaced (library_on extents v.geometry slots) bytes (placed_entries bytes) result

-- A library was read of a volume, or refused, if the slots of the volume are known: its directory first, and then its entries in their
-- order, each with its member and then its notes.
abbrev pub ReadsLibrary : List Extent → KnownVolume → Result LibraryContents LibraryReadFault → Type 0
ReadsLibrary extents v result = (slots : List (List ℕ)) → v.slots ≡ Some slots
    → GivesLibrary (library_on extents v.geometry slots) (directory_bytes (library_on extents v.geometry slots)) result
