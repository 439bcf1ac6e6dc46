-- The entries of a library as they are read, and why one is not.
use Rattle.std.specs.Prelude.{◌≡◌, ℕ, ◌+◌, ◌*◌, nat_lt, if◌then◌else◌, List, [], ◌∷◌, length, drop, Option, Some, None, Result, Ok, Err}
use Rattle.volume_labels.specs.declared.directories.DirectoryEntry.{DirectoryEntry}
use Rattle.volume_labels.specs.declared.fields.Extent.{Extent}
use Rattle.std.specs.List.{position}
use Rattle.dasd_volumes.specs.declared.fault.VolumeFault.{VolumeFault}
use Rattle.dasd_volumes.specs.Reading.{KnownVolume}
use Rattle.library_contents.specs.declared.contents.ReadEntry.{ReadEntry}
use Rattle.library_contents.specs.declared.contents.ReadNote.{ReadNote}
use Rattle.library_contents.specs.declared.contents.LibraryReadFault.{LibraryReadFault}
use Rattle.library_contents.specs.declared.contents.LibraryReadFault.TheVariants.{Volume, Directory, Member, ShortUserData, NoBlock}
use Rattle.library_contents.specs.declared.directories.PlacedEntry.{PlacedEntry}
use Rattle.library_contents.specs.Directories.{user_data}
use Rattle.library_contents.specs.declared.entries.Joined.{Joined}
use Rattle.library_contents.specs.declared.entries.Numbered.{Numbered}
use Rattle.library_contents.specs.declared.members.Members.{Members}
use Rattle.library_contents.specs.Members.{Library, library_on, blocks_at, same_address, with_start, AreRead}
use Rattle.library_contents.specs.Notes.{notes_from}

-- what an entry says, without the number of its member
pub record EntryRead : Type 0 where
  pub entry : DirectoryEntry
  pub notes : List ReadNote
  pub user_data : List ℕ

-- the same of an entry in memory
abbrev pub said_by : ReadEntry → EntryRead
said_by r = record { entry = r.entry; notes = r.notes.items; user_data = r.user_data.items }

-- the entry of a number with its notes, if each leads to a block of its member
abbrev pub with_notes : (number : ℕ) → DirectoryEntry → (user : List ℕ) → Option (List ReadNote) → Result EntryRead LibraryReadFault
with_notes number e user None = Err (NoBlock number)
with_notes number e user (Some notes) = Ok (record { entry = e; notes = notes; user_data = drop (e.notes * 4) user })

-- the same, if its user data have room for them
abbrev pub noted : Library → (number : ℕ) → DirectoryEntry → (user member : List ℕ) → Result EntryRead LibraryReadFault
noted l number e user member =
    if nat_lt (length user) (e.notes * 4) then Err (ShortUserData number)
    else with_notes number e user (notes_from l member user e.notes 0)

-- the same, if its member is whole
abbrev pub of_member : Library → (number : ℕ) → DirectoryEntry → (user : List ℕ) → (member : Option (List ℕ)) → Result EntryRead LibraryReadFault
of_member l number e user None = Err (Member number)
of_member l number e user (Some member) = noted l number e user member

-- an entry of the directory with these bytes
abbrev pub entry_read : Library → (directory : List ℕ) → (number : ℕ) → PlacedEntry → Result EntryRead LibraryReadFault
entry_read l directory number p = of_member l number p.entry (user_data directory p) (blocks_at l p.entry.address)

-- an entry and those behind it, or the first fault
abbrev pub and_entries : Result EntryRead LibraryReadFault → Result (List EntryRead) LibraryReadFault → Result (List EntryRead) LibraryReadFault
and_entries (Ok entry) (Ok more) = Ok (entry ∷ more)
and_entries (Ok entry) (Err fault) = Err fault
and_entries (Err fault) more = Err fault

-- the entries of a directory, of which the first has a number
unfoldable pub entries_read : Library → (directory : List ℕ) → (number : ℕ) → List PlacedEntry → Result (List EntryRead) LibraryReadFault
entries_read l directory number [] = Ok []
entries_read l directory number (p ∷ placed) = and_entries (entry_read l directory number p) (entries_read l directory (number + 1) placed)

-- this was read, or it has this fault, which is none of the directory; a fault of the volume, and want of memory, come at any time
abbrev pub GivesEntry : Result EntryRead LibraryReadFault → Result ReadEntry LibraryReadFault → Type 0
GivesEntry r (Ok entry) = r ≡ Ok (said_by entry)
GivesEntry r (Err (Volume fault)) = Unit {0}
GivesEntry r (Err Directory) = ⊥
GivesEntry r (Err (Member number)) = r ≡ Err (Member number)
GivesEntry r (Err (ShortUserData number)) = r ≡ Err (ShortUserData number)
GivesEntry r (Err (NoBlock number)) = r ≡ Err (NoBlock number)

-- an entry of a member whose blocks are these, if the slots of the volume are known
abbrev pub ReadsNoted : List Extent → KnownVolume → Joined → (user member : List ℕ) → Result ReadEntry LibraryReadFault → Type 0
ReadsNoted extents v j user member result = (slots : List (List ℕ)) → v.slots ≡ Some slots
    → GivesEntry (noted (library_on extents v.geometry slots) j.number j.entry user member) result

-- an entry of the directory with these bytes, if the slots of the volume are known
abbrev pub ReadsEntry : KnownVolume → List Extent → (directory : List ℕ) → Numbered → Result ReadEntry LibraryReadFault → Type 0
ReadsEntry v extents directory n result = (slots : List (List ℕ)) → v.slots ≡ Some slots
    → GivesEntry (entry_read (library_on extents v.geometry slots) directory n.number n.placed) result

-- an entry has the number of its member, which was read
pub record HasMember (extents : List Extent) (v : KnownVolume) (p : PlacedEntry) (before now : Members) (e : ReadEntry) : Type 0 where
  pub starts : now.starts.items ≡ with_start before.starts.items p.entry.address
  pub number : position (same_address p.entry.address) now.starts.items ≡ Some e.member
  pub read : AreRead extents v now

-- what a read of the volume gave
abbrev pub of_volume : {A : Type 0} → Result A LibraryReadFault → Result (Unit {0}) VolumeFault
of_volume (Err (Volume fault)) = Err fault
of_volume result = Ok tt
