-- What is read of a directory that was made, by the definitions of the reader.
use Rattle.std.specs.Prelude.{◌≡◌, ℕ, List, ◌++◌, map, None}
use Rattle.volume_labels.specs.Directories.{entries_of, Found}
use Rattle.record_tracks.specs.Entries.{EntryContents, entry_read, all_entries}
use Rattle.record_tracks.specs.Directory.{blocks_of, data_of}

-- these entries and no others, and nothing wrong behind them
abbrev pub these_entries : List EntryContents → Found
these_entries entries = record { entries = map entry_read entries; fault = None }

-- Whatever stands behind the blocks of the directory, a reader has exactly these entries of it, in their order: the last entry ends it.
abbrev pub IsReadBack : List EntryContents → (blocks : ℕ) → Type 0
IsReadBack entries blocks =
    (behind : List ℕ) → entries_of (data_of (blocks_of (all_entries entries) blocks) ++ behind) ≡ these_entries entries
