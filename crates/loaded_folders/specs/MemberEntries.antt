-- The entries of a library with one more.
use Rattle.std.specs.Prelude.{ℕ, ◌+◌, ◌==◌, not, Bool, true, false, List, [], ◌∷◌, ◌++◌, map, take, drop, length, bytes_eq, Option, Some, None}
use Rattle.std.specs.List.{position, list_any}
use Rattle.std.specs.Ordering.{nat_cmp}
use Rattle.std.specs.Cmp.Lexicographic.{slice_cmp}
use Rattle.member_changes.specs.Entries.{is_less, place_or}
use Rattle.library_contents.specs.declared.contents.ReadEntry.{ReadEntry}
use Rattle.library_contents.specs.declared.contents.ReadNote.{ReadNote}
use Rattle.record_tracks.specs.declared.libraries.MemberEntry.{MemberEntry}
use Rattle.record_tracks.specs.declared.libraries.MemberNote.{MemberNote}

-- what an entry is to say: its name, the number of its member, whether it is another name of one, its notes, and its other user data
pub record EntrySaid : Type 0 where
  pub name : List ℕ
  pub member : ℕ
  pub is_alias : Bool
  pub notes : List MemberNote
  pub user_data : List ℕ

-- an entry that is given for a new library
abbrev pub said_by : MemberEntry → EntrySaid
said_by e = record { name = e.name; member = e.member; is_alias = e.is_alias; notes = e.notes.now; user_data = e.user_data.now }

-- an address by its block, as it was read
abbrev pub note_anew : ReadNote → MemberNote
note_anew n = record { block = n.block; count = n.count }

-- an entry as it was read, but for the address that its member had
abbrev pub kept_entry : ReadEntry → EntrySaid
kept_entry e = record {
  name = e.entry.name;
  member = e.member;
  is_alias = e.entry.is_alias;
  notes = map note_anew e.notes.items;
  user_data = e.user_data.items;
}

-- the entry of a new member: no other name of one, without user data
abbrev pub new_entry : (name : List ℕ) → (member : ℕ) → EntrySaid
new_entry name member = record { name = name; member = member; is_alias = false; notes = []; user_data = [] }

-- an entry has a name
abbrev pub has_name : (name : List ℕ) → ReadEntry → Bool
has_name name e = bytes_eq e.entry.name name

-- one of the entries has it
abbrev pub names_member : (name : List ℕ) → List ReadEntry → Bool
names_member name entries = list_any (has_name name) entries

-- an address in its user data leads to a note list: the byte behind it says how many addresses that block has itself
abbrev pub has_note_list : ReadEntry → Bool
has_note_list e = list_any (λ n. not (n.count == 0)) e.notes.items

-- the number of the first entry of which one does, from 1 on
abbrev pub from_one : Option ℕ → Option ℕ
from_one (Some i) = Some (i + 1)
from_one None = None

abbrev pub note_list : List ReadEntry → Option ℕ
note_list entries = from_one (position has_note_list entries)

-- an entry comes behind a name in it, byte by byte
abbrev pub comes_behind : (name : List ℕ) → ReadEntry → Bool
comes_behind name e = is_less (slice_cmp nat_cmp name e.entry.name)

-- how many entries stand before one of a name: those before the first that comes behind it
abbrev pub place_for : (name : List ℕ) → List ReadEntry → ℕ
place_for name entries = place_or (length entries) (position (comes_behind name) entries)

-- the entries that were read, with a new one where its name belongs
abbrev pub with_entry : EntrySaid → List ReadEntry → List EntrySaid
with_entry e entries =
    let place = place_for e.name entries in map kept_entry (take place entries) ++ e ∷ map kept_entry (drop place entries)
