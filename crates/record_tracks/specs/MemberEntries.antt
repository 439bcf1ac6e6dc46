-- The entries of a library's directory, with the addresses of its members (System Control Blocks, 'Partitioned Data Set Directory').
use Rattle.std.specs.Prelude.{ℕ, ◌+◌, ◌*◌, ◌/◌, ◌%◌, min, List, [], ◌∷◌, ◌++◌, length, map, flat_map, replicate}
use Rattle.std.specs.List.{concat}
use Rattle.ckd_track.specs.declared.model.DriveModel.{DriveModel}
use Rattle.volume_labels.specs.declared.fields.RelativeAddress.{RelativeAddress}
use Rattle.record_tracks.specs.Records.{Areas}
use Rattle.record_tracks.specs.Entries.{EntryContents, all_entries}
use Rattle.record_tracks.specs.Directory.{blocks_of}
use Rattle.record_tracks.specs.declared.libraries.MemberEntry.{MemberEntry}
use Rattle.record_tracks.specs.declared.libraries.NewLibrary.{NewLibrary}
use Rattle.record_tracks.specs.Library.{library_areas, first_record}
use Rattle.record_tracks.specs.Addresses.{address_of}

-- A directory of zeros: where the records of a library stand depends on their lengths alone, so that its addresses are known before it is.
abbrev pub blank_directory : NewLibrary → List ℕ
blank_directory l = replicate (l.directory_blocks * 264) 0

-- all records of a library with that directory
abbrev pub blank_areas : NewLibrary → List Areas
blank_areas l = library_areas (blank_directory l) l.members.now

-- the address of block k of a member, from 0 on; that of its end of file, where k is the number of its blocks
abbrev pub block_address : DriveModel → NewLibrary → (member k : ℕ) → RelativeAddress
block_address model l member k = address_of model (blank_areas l) (first_record l.directory_blocks l.members.now member + k)

-- an address in the user data of an entry: track, number and the byte behind them
abbrev pub note_bytes : RelativeAddress → (count : ℕ) → List ℕ
note_bytes a count = a.track / 256 ∷ a.track % 256 ∷ a.number ∷ count ∷ []

-- the notes of an entry: the addresses of blocks of its member
abbrev pub entry_notes : DriveModel → NewLibrary → MemberEntry → List ℕ
entry_notes model l e = flat_map (λ n. note_bytes (block_address model l e.member n.block) n.count) e.notes.now

-- its user data: its notes, and what is kept behind them
abbrev pub entry_user_data : DriveModel → NewLibrary → MemberEntry → List ℕ
entry_user_data model l e = entry_notes model l e ++ e.user_data.now

-- an entry, with the address of its member's first block; its notes are counted in a byte
abbrev pub entry_contents : DriveModel → NewLibrary → MemberEntry → EntryContents
entry_contents model l e = record {
  name = e.name;
  address = block_address model l e.member 0;
  is_alias = e.is_alias;
  notes = min (length e.notes.now) 255;
  user_data = entry_user_data model l e;
}

-- the entries of a library, in their order
abbrev pub directory_entries : DriveModel → NewLibrary → List EntryContents
directory_entries model l = map (entry_contents model l) l.entries.now

-- the blocks of the directory, one behind another
abbrev pub directory_bytes : DriveModel → NewLibrary → List ℕ
directory_bytes model l = concat (blocks_of (all_entries (directory_entries model l)) l.directory_blocks)
