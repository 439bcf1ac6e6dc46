-- The entries of a library's directory, by the lines of a text.
use Rattle.std.specs.Prelude.{ℕ, ◌-◌, ◌==◌, Bool, is_some, if◌then◌else◌, List, [], ◌∷◌, ◌++◌, bytes_eq}
use Rattle.std.specs.Prelude.{Option, Some, None, Result, Ok, Err}
use Rattle.std.specs.List.{position}
use Rattle.std.specs.Option.{unwrap_or}
use Rattle.record_tracks.specs.declared.libraries.MemberEntry.{MemberEntry}
use Rattle.record_tracks.specs.declared.libraries.MemberNote.{MemberNote}
use Rattle.set_forms.specs.declared.forms.EntryForm.{EntryForm}
use Rattle.set_forms.specs.declared.forms.Note.{Note}
use Rattle.set_forms.specs.declared.forms.Note.TheVariants.{Block, Address}
use Rattle.loaded_folders.specs.declared.fault.FolderEntryFault.{FolderEntryFault}
use Rattle.loaded_folders.specs.declared.fault.FolderEntryFault.TheVariants.{NoMember, NoBlock, NoteList}
use Rattle.loaded_folders.specs.Sets.{members_of}

-- an entry as a library is to have it: its member is the one of this number, from 0 on
pub record EntryParts : Type 0 where
  pub name : List ℕ
  pub member : ℕ
  pub is_alias : Bool
  pub notes : List MemberNote
  pub user : List ℕ

-- what a library is to have for an entry
abbrev pub member_parts : MemberEntry → EntryParts
member_parts e = record { name = e.name; member = e.member; is_alias = e.is_alias; notes = e.notes.now; user = e.user_data.now }

-- the name of the member whose blocks an entry has: its own, or that of the member of which it is another name
abbrev pub member_name : EntryForm → List ℕ
member_name e = unwrap_or e.member e.name

-- A note to a block by its number, from 1 on in a text and from 0 on in a library. The byte counts the addresses in a note list, which
-- would be wrong on the volume.
abbrev pub note_to : Note → Result MemberNote FolderEntryFault
note_to (Block number byte) =
    if number == 0 then Err NoBlock
    else (if byte == 0 then Ok (record { block = number - 1; count = 0 }) else Err NoteList)
note_to (Address address byte) = Err NoBlock

-- the first note that leads nowhere ends it
abbrev pub on_note : Result MemberNote FolderEntryFault → (MemberNote → Result (List MemberNote) FolderEntryFault)
    → Result (List MemberNote) FolderEntryFault
on_note (Ok n) next = next n
on_note (Err f) next = Err f

-- these notes, and those of the others
abbrev pub notes_behind : List MemberNote → List Note → Result (List MemberNote) FolderEntryFault
notes_behind done [] = Ok done
notes_behind done (n ∷ notes) = on_note (note_to n) (λ d. notes_behind (done ++ d ∷ []) notes)

abbrev pub notes_to : List Note → Result (List MemberNote) FolderEntryFault
notes_to notes = notes_behind [] notes

-- an entry with its member and its notes, if it has both
abbrev pub entry_with : EntryForm → Option ℕ → Result (List MemberNote) FolderEntryFault → Result EntryParts FolderEntryFault
entry_with e None notes = Err NoMember
entry_with e (Some member) (Err f) = Err f
entry_with e (Some member) (Ok notes) =
    Ok (record { name = e.name; member = member; is_alias = is_some e.member; notes = notes; user = e.user.items })

-- an entry of a library with members of these names
abbrev pub entry_parts : (members : List (List ℕ)) → EntryForm → Result EntryParts FolderEntryFault
entry_parts members e = entry_with e (position (λ m. bytes_eq m (member_name e)) members) (notes_to e.notes.items)

-- the name of an entry, and why it leads nowhere
pub record EntryRefused : Type 0 where
  pub name : List ℕ
  pub fault : FolderEntryFault

-- the first entry that leads nowhere ends it
abbrev pub on_entry : (name : List ℕ) → Result EntryParts FolderEntryFault → (EntryParts → Result (List EntryParts) EntryRefused)
    → Result (List EntryParts) EntryRefused
on_entry name (Ok e) next = next e
on_entry name (Err f) next = Err (record { name = name; fault = f })

-- these entries, and those of the others
abbrev pub entries_behind : (members : List (List ℕ)) → List EntryParts → List EntryForm → Result (List EntryParts) EntryRefused
entries_behind members done [] = Ok done
entries_behind members done (e ∷ entries) =
    on_entry e.name (entry_parts members e) (λ p. entries_behind members (done ++ p ∷ []) entries)

-- the entries of a library with these lines
abbrev pub entries_of : List EntryForm → Result (List EntryParts) EntryRefused
entries_of entries = entries_behind (members_of entries) [] entries
