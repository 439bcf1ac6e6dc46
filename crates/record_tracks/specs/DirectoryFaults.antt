-- Why a directory can't have entries.
use Rattle.std.specs.Prelude.{◌≡◌, ℕ, ◌+◌, ◌*◌, ◌%◌, ◌==◌, ◌||◌, not, nat_lt, if◌then◌else◌, List, [], ◌∷◌, length, slice_index, All}
use Rattle.std.specs.Prelude.{Option, Some, None}
use Rattle.std.specs.Ordering.{nat_cmp}
use Rattle.std.specs.Cmp.Lexicographic.{slice_cmp}
use Rattle.std.specs.declared.cmp.Ordering.{Ordering}
use Rattle.std.specs.declared.cmp.Ordering.TheVariants.{Less, Equal, Greater}
use Rattle.volume_labels.specs.Directories.{is_last}
use Rattle.record_tracks.specs.declared.directory_faults.EntryFault.{EntryFault}
use Rattle.record_tracks.specs.declared.directory_faults.EntryFault.TheVariants.{NoName, SameName, NotAscending}
use Rattle.record_tracks.specs.declared.directory_faults.EntryFault.TheVariants.{LongUserData, OddUserData, TooManyNotes}
use Rattle.record_tracks.specs.declared.directory_faults.RefusedEntry.{RefusedEntry}
use Rattle.record_tracks.specs.Entries.{EntryContents, IsEntry}

-- A name begins with no blank, and is not that of the last entry.
abbrev pub own_fault : EntryContents → Option EntryFault
own_fault e =
    if (slice_index e.name 0 == 0x40) || is_last e.name then Some NoName
    else (if nat_lt 62 (length e.user_data) then Some LongUserData
    else (if not (length e.user_data % 2 == 0) then Some OddUserData
    else (if nat_lt 3 e.notes || nat_lt (length e.user_data) (4 * e.notes) then Some TooManyNotes
    else None)))

-- names stand in the collating sequence of EBCDIC, byte by byte, and each stands there once
abbrev pub order_fault : Ordering → Option EntryFault
order_fault Less = None
order_fault Equal = Some SameName
order_fault Greater = Some NotAscending

abbrev pub fault_behind : (before : Option (List ℕ)) → (name : List ℕ) → Option EntryFault
fault_behind None name = None
fault_behind (Some before) name = order_fault (slice_cmp nat_cmp before name)

abbrev pub unless_refused : Option EntryFault → Option EntryFault → Option EntryFault
unless_refused (Some fault) other = Some fault
unless_refused None other = other

-- what is wrong with an entry, and then with its place behind that of another name
abbrev pub entry_fault : (before : Option (List ℕ)) → EntryContents → Option EntryFault
entry_fault before e = unless_refused (own_fault e) (fault_behind before e.name)

abbrev pub refused_or : (number : ℕ) → Option EntryFault → Option RefusedEntry → Option RefusedEntry
refused_or number (Some fault) later = Some (record { number = number; fault = fault })
refused_or number None later = later

-- the first entry that is refused, the first of these having this number and standing behind this name
unfoldable pub refused_from : (number : ℕ) → (before : Option (List ℕ)) → List EntryContents → Option RefusedEntry
refused_from number before [] = None
refused_from number before (e ∷ others) = refused_or number (entry_fault before e) (refused_from (number + 1) (Some e.name) others)

abbrev pub refused_entry : List EntryContents → Option RefusedEntry
refused_entry entries = refused_from 0 None entries

-- none of the entries is refused
pub record AreEntries (entries : List EntryContents) : Type 0 where
  pub not_refused : refused_entry entries ≡ None
  pub each : All IsEntry entries
