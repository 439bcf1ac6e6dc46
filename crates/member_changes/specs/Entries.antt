-- The entries of a directory, and what a change of one makes of them (IBM System/360 Operating System, Data Management Macro Instructions,
-- GC26-3794, 'STOW').
use Rattle.std.specs.Prelude.{ℕ, ◌+◌, Bool, true, false, if◌then◌else◌, List, [], ◌∷◌, ◌++◌, length, map, take, drop, slice_index_or}
use Rattle.std.specs.Prelude.{bytes_eq, is_some, Option, Some, None, option_map, Result, Ok, Err}
use Rattle.std.specs.List.{position}
use Rattle.std.specs.Ordering.{nat_cmp}
use Rattle.std.specs.Cmp.Lexicographic.{slice_cmp}
use Rattle.std.specs.declared.cmp.Ordering.{Ordering}
use Rattle.std.specs.declared.cmp.Ordering.TheVariants.{Less, Equal, Greater}
use Rattle.library_contents.specs.declared.directories.PlacedEntry.{PlacedEntry}
use Rattle.library_contents.specs.Directories.{placed_entries, user_data}
use Rattle.record_tracks.specs.Entries.{EntryContents}
use Rattle.member_changes.specs.declared.entries.EntryChange.{EntryChange}
use Rattle.member_changes.specs.declared.entries.EntryChange.TheVariants.{Delete, Rename}
use Rattle.member_changes.specs.declared.refusal.MemberRefusal.{MemberRefusal}
use Rattle.member_changes.specs.declared.refusal.MemberRefusal.TheVariants as refusal

-- an entry in the blocks of a directory, with its user data
abbrev pub contents_in : (bytes : List ℕ) → PlacedEntry → EntryContents
contents_in bytes p = record {
  name = p.entry.name;
  address = p.entry.address;
  is_alias = p.entry.is_alias;
  notes = p.entry.notes;
  user_data = user_data bytes p;
}

-- the entries in the blocks of a directory, if nothing is wrong after them
abbrev pub entries_in : (bytes : List ℕ) → Option (List EntryContents)
entries_in bytes = option_map (λ (l : List PlacedEntry). map (contents_in bytes) l) (placed_entries bytes)

abbrev pub has_name : (name : List ℕ) → EntryContents → Bool
has_name name e = bytes_eq e.name name

-- of two names the first is less in the collating sequence of EBCDIC
abbrev pub is_less : Ordering → Bool
is_less Less = true
is_less Equal = false
is_less Greater = false

-- a name comes before that of an entry in it, byte by byte
abbrev pub precedes : (name : List ℕ) → EntryContents → Bool
precedes name e = is_less (slice_cmp nat_cmp name e.name)

-- a place, or after all
abbrev pub place_or : (all : ℕ) → Option ℕ → ℕ
place_or all (Some place) = place
place_or all None = all

-- how many entries come before one of a name: those before the first that it precedes
abbrev pub place_for : (name : List ℕ) → List EntryContents → ℕ
place_for name entries = place_or (length entries) (position (precedes name) entries)

-- the entries without entry i
abbrev pub without : (i : ℕ) → List EntryContents → List EntryContents
without i entries = take i entries ++ drop (i + 1) entries

-- the entries with one more, where its name belongs
abbrev pub with_entry : EntryContents → List EntryContents → List EntryContents
with_entry e entries = take (place_for e.name entries) entries ++ e ∷ drop (place_for e.name entries) entries

-- entry i under another name; what else it says stays
abbrev pub no_entry : EntryContents
no_entry = record { name = []; address = record { track = 0; number = 0 }; is_alias = false; notes = 0; user_data = [] }

abbrev pub entry_named : (name : List ℕ) → List EntryContents → (i : ℕ) → EntryContents
entry_named name entries i = record (slice_index_or entries i no_entry) { name = name }

-- An entry is left out. Other names of its member lead to the member as before.
abbrev pub deleted : List EntryContents → Option ℕ → Result (List EntryContents) MemberRefusal
deleted entries None = Err refusal.NoMember
deleted entries (Some i) = Ok (without i entries)

-- An entry gets another name, and comes where that belongs, unless an entry has the name.
abbrev pub renamed : (new : List ℕ) → List EntryContents → Option ℕ → Result (List EntryContents) MemberRefusal
renamed new entries None = Err refusal.NoMember
renamed new entries (Some i) =
    if is_some (position (has_name new) entries) then Err refusal.NameTaken else Ok (with_entry (entry_named new entries i) (without i entries))

-- what a change makes of the entries: of the first one that has the name
abbrev pub changed : EntryChange → List EntryContents → Result (List EntryContents) MemberRefusal
changed (Delete name) entries = deleted entries (position (has_name name) entries)
changed (Rename old new) entries = renamed new entries (position (has_name old) entries)
