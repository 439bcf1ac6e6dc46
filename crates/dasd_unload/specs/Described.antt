-- What the text of a folder says of the data sets of a volume, by their labels and their directories.
use Rattle.std.specs.Prelude.{◌≡◌, ℕ, zero, suc, ◌+◌, ◌-◌, ◌*◌, ◌/◌, ◌==◌, Bool, ◌&&◌, ◌||◌, not, nat_lt, nat_le, true, false, bytes_eq, take}
use Rattle.std.specs.Prelude.{if◌then◌else◌, List, [], ◌∷◌}
use Rattle.std.specs.Prelude.{◌++◌, length}
use Rattle.std.specs.Prelude.{drop, find, slice_index, slice_range, Option, Some, None, option_map, Result, Ok, Err}
use Rattle.std.specs.List.{flat_map, list_any}
use Rattle.ckd_track.specs.declared.geometries.Geometry.{Geometry}
use Rattle.volume_labels.specs.declared.fields.RelativeAddress.{RelativeAddress}
use Rattle.volume_labels.specs.declared.fields.Extent.{Extent}
use Rattle.volume_labels.specs.declared.blocks.DataSetBlock.{DataSetBlock}
use Rattle.volume_labels.specs.Labels.{data_set_block_of}
use Rattle.volume_labels.specs.Addresses.{is_split}
use Rattle.volume_labels.specs.declared.directories.DirectoryEntry.{DirectoryEntry}
use Rattle.volume_labels.specs.declared.directories.DirectoryStep.{DirectoryStep}
use Rattle.volume_labels.specs.declared.directories.DirectoryStep.TheVariants as step
use Rattle.volume_labels.specs.Directories.{step_at, entries_of}
use Rattle.dasd_volumes.specs.Reading.{KnownVolume}
use Rattle.volume_contents.specs.declared.blocks.Block as table
use Rattle.volume_contents.specs.Sets.{is_data_set, extents_behind}
use Rattle.dasd_extract.specs.Walk.{Wanted, wanted, source_written}
use Rattle.dasd_extract.specs.Members.{directory}
use Rattle.dasd_extract.specs.declared.blocks.ExtractedForm.TheVariants.{Keyed}
use Rattle.set_forms.specs.declared.forms.SetForm.{SetForm}
use Rattle.set_forms.specs.declared.forms.SetDetails.{SetDetails}
use Rattle.set_forms.specs.declared.forms.EntryForm.{EntryForm}
use Rattle.set_forms.specs.declared.forms.Note.{Note}
use Rattle.set_forms.specs.declared.forms.Note.TheVariants.{Block, Address}
use Rattle.set_forms.specs.declared.forms.FormLine.{FormLine}
use Rattle.set_forms.specs.declared.forms.FormLine.TheVariants.{Set, Entry}
use Rattle.set_forms.specs.Forms.{text_of}
use Rattle.dasd_jobs.specs.Written.{Replaced, with_file}
use Rattle.dasd_unload.specs.declared.fault.UnloadFault.{UnloadFault}
use Rattle.dasd_unload.specs.Parts.{is_partitioned}

-- an extent is for user labels (DS1EXT1)
abbrev pub has_labels : Extent → Bool
has_labels e = e.kind == 0x40

-- the types of extents that are no plain ones: 80 where one shares its cylinders, 40 where one is for user labels
abbrev pub types_of : (shared labelled : Bool) → ℕ
types_of false false = 0
types_of false true = 0x40
types_of true false = 0x80
types_of true true = 0xC0

abbrev pub extent_types : List Extent → ℕ
extent_types extents = types_of (list_any is_split extents) (list_any has_labels extents)

-- what is told of the volume and the extents of a data set; nothing of one that is on one volume, in plain extents
abbrev pub set_details : DataSetBlock → List Extent → Option SetDetails
set_details d extents =
    if nat_le d.volume 1 && (extent_types extents == 0) then None else Some (record { volume = d.volume; extents = extent_types extents })

-- what a label says
abbrev pub set_form : DataSetBlock → List Extent → (directory : Option ℕ) → SetForm
set_form d extents directory = record {
  name = d.name;
  organisation = d.organisation;
  format = d.format;
  record_length = d.record_length;
  block_length = d.block_length;
  key_length = d.key_length;
  created = d.created;
  expires = d.expires;
  directory = directory;
  details = set_details d extents;
}

-- how many blocks of 256 bytes a directory has, up to 65535
abbrev pub directory_blocks : List ℕ → ℕ
directory_blocks bytes = if nat_lt 65535 (length bytes / 256) then 65535 else length bytes / 256

-- Another name of a member is that of the first member that begins where it does, if one does.

abbrev pub is_same_place : (one other : RelativeAddress) → Bool
is_same_place one other = (one.track == other.track) && (one.number == other.number)

-- a member that begins there
abbrev pub begins_at : RelativeAddress → DirectoryEntry → Bool
begins_at address m = not m.is_alias && is_same_place m.address address

abbrev pub member_named : List DirectoryEntry → DirectoryEntry → Option (List ℕ)
member_named entries e = if e.is_alias then option_map (λ m. m.name) (find (begins_at e.address) entries) else None

-- Blocks that are written with their lengths and keys: a byte 1, the length of the key in a byte, that of the data in two, the key, the data.

abbrev pub block_size : List ℕ → ℕ
block_size bytes = 4 + slice_index bytes 1 + 256 * slice_index bytes 2 + slice_index bytes 3

-- how many there are; each has bytes, so the number of bytes bounds them
unfoldable pub blocks_within : (most : ℕ) → List ℕ → ℕ
blocks_within zero bytes = 0
blocks_within (suc most) bytes =
    if nat_lt (length bytes) 4 || nat_lt (length bytes) (block_size bytes) then 0 else 1 + blocks_within most (drop (block_size bytes) bytes)

abbrev pub block_count : List ℕ → ℕ
block_count bytes = blocks_within (length bytes) bytes

-- The block to which a note leads: the one from which on a member has the same blocks as stand at the note's address, up to the end of file.

-- bytes end with others, of which there are some
abbrev pub ends_with : (bytes last : List ℕ) → Bool
ends_with bytes last =
    if (length last == 0) || nat_lt (length bytes) (length last) then false else bytes_eq (drop (length bytes - length last) bytes) last

-- its number, the first being 1
abbrev pub numbered : (before : ℕ) → Option ℕ
numbered before = if nat_le 4294967295 before then None else Some (before + 1)

abbrev pub block_led_to : (member behind : List ℕ) → Option ℕ
block_led_to member behind = if ends_with member behind then numbered (block_count (take (length member - length behind) member)) else None

-- Notes: the first bytes of user data, four each: an address, and a byte. One that leads to no block of its member stands as it is.

abbrev pub address_of : List ℕ → RelativeAddress
address_of note = record { track = slice_index note 0 * 256 + slice_index note 1; number = slice_index note 2 }

-- the blocks from an address on, with their lengths and keys
abbrev pub keyed : List Extent → RelativeAddress → Wanted
keyed extents start = wanted Keyed extents start 65535

abbrev pub keyed_bytes : List Extent → RelativeAddress → Geometry → (slots : List (List ℕ)) → List ℕ
keyed_bytes extents start g slots = (source_written (keyed extents start) g slots).bytes

abbrev pub note_led : Option ℕ → (note : List ℕ) → Note
note_led (Some number) note = Block number (slice_index note 3)
note_led None note = Address (take 3 note) (slice_index note 3)

abbrev pub note_form : List Extent → (member note : List ℕ) → Geometry → (slots : List (List ℕ)) → Note
note_form extents member note g slots = note_led (block_led_to member (keyed_bytes extents (address_of note) g slots)) note

-- the first notes of user data
unfoldable pub note_forms : List Extent → (member user : List ℕ) → Geometry → (slots : List (List ℕ)) → (count : ℕ) → List Note
note_forms extents member user g slots zero = []
note_forms extents member user g slots (suc count) =
    note_forms extents member user g slots count ++ note_form extents member (slice_range user (count * 4) (count * 4 + 4)) g slots ∷ []

-- as many notes as the entry says, if there are so many
abbrev pub note_count : DirectoryEntry → List ℕ → ℕ
note_count e user = if nat_lt e.notes (length user / 4) then e.notes else length user / 4

abbrev pub entry_form : DirectoryEntry → (member : Option (List ℕ)) → List Note → (rest : List ℕ) → EntryForm
entry_form e member notes rest = record { name = e.name; member = member; notes = record { items = notes }; user = record { items = rest } }

-- an entry with this user data
abbrev pub entry_in : List Extent → List DirectoryEntry → DirectoryEntry → (user : List ℕ) → Geometry → (slots : List (List ℕ)) → EntryForm
entry_in extents entries e user g slots =
    entry_form e (member_named entries e) (note_forms extents (keyed_bytes extents e.address g slots) user g slots (note_count e user))
    (drop (note_count e user * 4) user)

-- the user data of an entry end where the next one begins
abbrev pub user_data : List ℕ → DirectoryEntry → (next : ℕ) → List ℕ
user_data bytes e next =
    if nat_lt next e.user_bytes || nat_lt (length bytes) next then [] else slice_range bytes (next - e.user_bytes) next

-- the forms of the entries from an offset of a directory on; each step passes bytes, so the number of bytes bounds the steps
abbrev pub step_forms : (form : DirectoryEntry → (next : ℕ) → FormLine) → DirectoryStep → (ℕ → List FormLine) → List FormLine
step_forms form (step.Entry e next) behind = form e next ∷ behind next
step_forms form (step.Skip next) behind = behind next
step_forms form step.End behind = []
step_forms form (step.Fault f) behind = []

unfoldable pub forms_from : (form : DirectoryEntry → (next : ℕ) → FormLine) → (most : ℕ) → List ℕ → (at : ℕ) → List FormLine
forms_from form zero bytes at = []
forms_from form (suc most) bytes at = step_forms form (step_at bytes at) (forms_from form most bytes)

-- the entries in the blocks of a directory
abbrev pub directory_lines : List Extent → List DirectoryEntry → (bytes : List ℕ) → Geometry → (slots : List (List ℕ)) → List FormLine
directory_lines extents entries bytes g slots =
    forms_from (λ e next. Entry (entry_in extents entries e (user_data bytes e next) g slots)) (length bytes) bytes 0

-- a partitioned data set with these blocks of its directory
abbrev pub library_forms : DataSetBlock → List Extent → (bytes : List ℕ) → Geometry → (slots : List (List ℕ)) → List FormLine
library_forms d extents bytes g slots =
    Set (set_form d extents (Some (directory_blocks bytes))) ∷ directory_lines extents (entries_of bytes).entries bytes g slots

-- a data set with these extents
abbrev pub set_forms : DataSetBlock → List Extent → Geometry → (slots : List (List ℕ)) → List FormLine
set_forms d extents g slots =
    if is_partitioned d then library_forms d extents (source_written (directory extents) g slots).bytes g slots
    else Set (set_form d extents None) ∷ []

-- a format 1 block is that of a data set; no other is
abbrev pub block_forms : List table.Block → table.Block → Geometry → (slots : List (List ℕ)) → List FormLine
block_forms blocks b g slots =
    if is_data_set b.kind then set_forms (data_set_block_of b.key b.bytes) (extents_behind blocks b) g slots else []

-- the text of a table of contents
abbrev pub described : List table.Block → Geometry → (slots : List (List ℕ)) → List ℕ
described blocks g slots = text_of (flat_map (λ b. block_forms blocks b g slots) blocks)

-- the text of these forms went to the end of another, if the slots of the volume are known
abbrev pub AddsText : KnownVolume → (forms : Geometry → List (List ℕ) → List FormLine) → (before now : List ℕ) → Type 0
AddsText v forms before now = (slots : List (List ℕ)) → v.slots ≡ Some slots → now ≡ before ++ text_of (forms v.geometry slots)

-- these are the bytes of a source's blocks, likewise
abbrev pub SourceBytes : Wanted → KnownVolume → (bytes : List ℕ) → Type 0
SourceBytes s v bytes = (slots : List (List ℕ)) → v.slots ≡ Some slots → bytes ≡ (source_written s v.geometry slots).bytes

abbrev pub KeyedBytes : List Extent → RelativeAddress → KnownVolume → (bytes : List ℕ) → Type 0
KeyedBytes extents start v bytes = SourceBytes (keyed extents start) v bytes

-- these are the forms of a note, of some notes, and of an entry, likewise
abbrev pub NoteIs : List Extent → (member note : List ℕ) → KnownVolume → Note → Type 0
NoteIs extents member note v n = (slots : List (List ℕ)) → v.slots ≡ Some slots → n ≡ note_form extents member note v.geometry slots

abbrev pub NotesAre : List Extent → (member user : List ℕ) → (count : ℕ) → KnownVolume → List Note → Type 0
NotesAre extents member user count v notes =
    (slots : List (List ℕ)) → v.slots ≡ Some slots → notes ≡ note_forms extents member user v.geometry slots count

abbrev pub EntryIs : List Extent → List DirectoryEntry → DirectoryEntry → (user : List ℕ) → KnownVolume → EntryForm → Type 0
EntryIs extents entries e user v form =
    (slots : List (List ℕ)) → v.slots ≡ Some slots → form ≡ entry_in extents entries e user v.geometry slots

-- this is the text of a table of contents, likewise
abbrev pub IsDescribed : KnownVolume → List table.Block → (text : List ℕ) → Type 0
IsDescribed v blocks text = (slots : List (List ℕ)) → v.slots ≡ Some slots → text ≡ described blocks v.geometry slots

-- a text was put into a file at a path, or nothing was
abbrev pub PutsText : {A : Type 0} → Result A UnloadFault → (path text : List ℕ) → (before now : List Replaced) → Type 0
PutsText (Ok _) path text before now = now ≡ with_file before path text
PutsText (Err _) path text before now = now ≡ before
