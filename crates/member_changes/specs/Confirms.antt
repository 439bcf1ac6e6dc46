-- Whether a directory says after a change what it should.
use Rattle.std.specs.Prelude.{ℕ, ◌==◌, Bool, true, false, ◌&&◌, List, [], ◌∷◌, bytes_eq, Option, Some, None}
use Rattle.record_tracks.specs.Entries.{EntryContents}
use Rattle.member_changes.specs.Entries.{entries_in}

abbrev pub is_same_bool : Bool → Bool → Bool
is_same_bool true b = b
is_same_bool false true = false
is_same_bool false false = true

-- two entries say the same
abbrev pub is_same : EntryContents → EntryContents → Bool
is_same d e =
    bytes_eq d.name e.name && ((d.address.track == e.address.track) && ((d.address.number == e.address.number)
    && (is_same_bool d.is_alias e.is_alias && ((d.notes == e.notes) && bytes_eq d.user_data e.user_data))))

-- two directories have the same entries
unfoldable pub are_same : List EntryContents → List EntryContents → Bool
are_same [] [] = true
are_same [] (e ∷ es) = false
are_same (d ∷ ds) [] = false
are_same (d ∷ ds) (e ∷ es) = is_same d e && are_same ds es

abbrev pub are_these : List EntryContents → Option (List EntryContents) → Bool
are_these entries None = false
are_these entries (Some found) = are_same found entries

-- the directory with these blocks of 256 bytes has these entries, and nothing is wrong after them
abbrev pub has_entries : List EntryContents → (bytes : List ℕ) → Bool
has_entries entries bytes = are_these entries (entries_in bytes)
