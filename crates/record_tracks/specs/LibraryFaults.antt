-- Why a library has no directory.
use Rattle.std.specs.Prelude.{◌≡◌, ℕ, zero, suc, ◌+◌, ◌-◌, Bool, nat_lt, nat_le, if◌then◌else◌, List, [], ◌∷◌, length, Option, Some, None}
use Rattle.std.specs.List.{position, list_any}
use Rattle.std.specs.Option.{option_or, option_map}
use Rattle.ckd_track.specs.declared.model.DriveModel.{DriveModel}
use Rattle.record_tracks.specs.Entries.{EntryContents, all_entries}
use Rattle.record_tracks.specs.Directory.{behind_block}
use Rattle.record_tracks.specs.DirectoryFaults.{refused_entry}
use Rattle.record_tracks.specs.declared.libraries.MemberEntry.{MemberEntry}
use Rattle.record_tracks.specs.declared.libraries.NewLibrary.{NewLibrary}
use Rattle.record_tracks.specs.declared.library_faults.LibraryFault.{LibraryFault}
use Rattle.record_tracks.specs.declared.library_faults.LibraryFault.TheVariants as fault
use Rattle.record_tracks.specs.Library.{blocks_of_member}
use Rattle.record_tracks.specs.Addresses.{address_of}
use Rattle.record_tracks.specs.MemberEntries.{blank_areas, directory_entries}

-- an entry is for a member that the library has not
abbrev pub lacks_member : NewLibrary → MemberEntry → Bool
lacks_member l e = nat_le (length l.members.now) e.member

-- a note of an entry leads to no block of its member
abbrev pub lacks_block : NewLibrary → MemberEntry → Bool
lacks_block l e = list_any (λ n. nat_le (length (blocks_of_member l.members.now e.member)) n.block) e.notes.now

-- the first entry without a member, and if each has one the first with a note that leads to no block; told by its number from 1 on
abbrev pub leading_fault : NewLibrary → Option LibraryFault
leading_fault l =
    option_or (option_map (λ n. fault.NoMember (n + 1)) (position (lacks_member l) l.entries.now))
    (option_map (λ n. fault.NoBlock (n + 1)) (position (lacks_block l) l.entries.now))

-- the last record, an end of file, stands on a track that an address can't say
abbrev pub length_fault : DriveModel → NewLibrary → Option LibraryFault
length_fault model l =
    if nat_le 65536 (address_of model (blank_areas l) (length (blank_areas l) - 1)).track then Some fault.TooManyTracks else None

-- the first entry that a directory can't have
abbrev pub entries_fault : List EntryContents → Option LibraryFault
entries_fault entries = option_map (λ r. fault.Entry (r.number + 1) r.fault) (refused_entry entries)

-- How many blocks the entries take that are left. Each has one at least, so that `most` is as many as there may be.
unfoldable pub blocks_from : (most : ℕ) → (entries : List (List ℕ)) → ℕ
blocks_from zero entries = 0
blocks_from (suc most) [] = 0
blocks_from (suc most) (e ∷ others) = suc (blocks_from most (behind_block (e ∷ others)))

-- how many blocks these entries take
abbrev pub blocks_taken : (entries : List (List ℕ)) → ℕ
blocks_taken entries = blocks_from (length entries) entries

-- a directory of so many blocks has fewer than its entries take
abbrev pub room_fault : (blocks : ℕ) → List EntryContents → Option LibraryFault
room_fault blocks entries =
    let taken = blocks_taken (all_entries entries) in if nat_lt blocks taken then Some (fault.FewBlocks taken) else None

-- why a directory of so many blocks can't have these entries
abbrev pub directory_fault : (blocks : ℕ) → List EntryContents → Option LibraryFault
directory_fault blocks entries = option_or (entries_fault entries) (room_fault blocks entries)

-- the first of these, in this order
abbrev pub library_fault : DriveModel → NewLibrary → Option LibraryFault
library_fault model l =
    option_or (leading_fault l) (option_or (length_fault model l) (directory_fault l.directory_blocks (directory_entries model l)))

-- it is this one; or memory was refused
abbrev pub IsFault : DriveModel → NewLibrary → LibraryFault → Type 0
IsFault model l fault.OutOfMemory = Unit {0}
IsFault model l f = library_fault model l ≡ Some f
