-- The entries of a directory as bytes (System Control Blocks, 'Partitioned Data Set Directory').
use Rattle.std.specs.Prelude.{◌≡◌, ◌≢◌, ℕ, ◌+◌, ◌*◌, ◌/◌, ◌%◌, ◌≤◌, ◌<◌, Bool, if◌then◌else◌, List, [], ◌∷◌, ◌++◌, length, map, replicate}
use Rattle.volume_labels.specs.declared.fields.RelativeAddress.{RelativeAddress}
use Rattle.volume_labels.specs.declared.directories.DirectoryEntry.{DirectoryEntry}
use Rattle.record_tracks.specs.declared.entries.NewEntry.{NewEntry}

-- what an entry says: a name, the address of a member's first block, whether it is another name of one, how many addresses its user data
-- begins with, and its user data
pub record EntryContents : Type 0 where
  pub name : List ℕ
  pub address : RelativeAddress
  pub is_alias : Bool
  pub notes : ℕ
  pub user_data : List ℕ

abbrev pub contents_of : NewEntry → EntryContents
contents_of e = record { name = e.name; address = e.address; is_alias = e.is_alias; notes = e.notes; user_data = e.user_data.now }

abbrev pub all_contents : List NewEntry → List EntryContents
all_contents entries = map contents_of entries

-- the byte behind the address: the bit of another name, how many addresses the user data begins with, and how many halfwords it has
abbrev pub lengths_byte : EntryContents → ℕ
lengths_byte e = (if e.is_alias then 128 else 0) + e.notes * 32 + length e.user_data / 2

-- an entry up to its user data: the name, the address of the first block, and that byte
abbrev pub entry_front : EntryContents → List ℕ
entry_front e = e.name ++ (e.address.track / 256 ∷ e.address.track % 256 ∷ e.address.number ∷ lengths_byte e ∷ [])

abbrev pub entry_bytes : EntryContents → List ℕ
entry_bytes e = entry_front e ++ e.user_data

-- the entry behind all others: a name of bytes FF, and zeros
abbrev pub last_entry : List ℕ
last_entry = replicate 8 255 ++ replicate 4 0

-- what a directory with these entries has, in its order
abbrev pub all_entries : List EntryContents → List (List ℕ)
all_entries entries = map entry_bytes entries ++ last_entry ∷ []

-- what is read of an entry
abbrev pub entry_read : EntryContents → DirectoryEntry
entry_read e = record { name = e.name; address = e.address; is_alias = e.is_alias; notes = e.notes; user_bytes = length e.user_data }

-- an entry that a directory can have: a name that does not end it, and user data that its byte of lengths can say
pub record IsEntry (e : EntryContents) : Type 0 where
  pub name : length e.name ≡ 8
  pub no_last : e.name ≢ replicate 8 255
  pub track : e.address.track < 65536
  pub number : e.address.number < 256
  pub notes : e.notes ≤ 3
  pub user_data : length e.user_data ≤ 62
  pub halfwords : length e.user_data % 2 ≡ 0
