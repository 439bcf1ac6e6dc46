-- The entries of a directory, each with where it ends.
use Rattle.std.specs.Prelude.{◌≡◌, ℕ, zero, suc, ◌-◌, nat_lt, if◌then◌else◌, List, [], ◌∷◌, length, map, slice_range, Option, Some, None, option_map}
use Rattle.std.specs.Global.{Vec}
use Rattle.volume_labels.specs.declared.directories.DirectoryEntry.{DirectoryEntry}
use Rattle.volume_labels.specs.declared.directories.DirectoryFault.{DirectoryFault}
use Rattle.volume_labels.specs.declared.directories.DirectoryStep.{DirectoryStep}
use Rattle.volume_labels.specs.declared.directories.DirectoryStep.TheVariants.{Entry, Skip, End, Fault}
use Rattle.volume_labels.specs.Directories.{step_at, entries_of}
use Rattle.library_contents.specs.declared.directories.PlacedEntry.{PlacedEntry}

-- an entry, and those behind it, if these can be read
abbrev pub and_more : DirectoryEntry → (end : ℕ) → Option (List PlacedEntry) → Option (List PlacedEntry)
and_more e end more = option_map (λ (l : List PlacedEntry). record { entry = e; end = end } ∷ l) more

-- what stands at an offset, and what is behind it
abbrev pub on_step : DirectoryStep → (ℕ → Option (List PlacedEntry)) → Option (List PlacedEntry)
on_step (Entry e next) more = and_more e next (more next)
on_step (Skip next) more = more next
on_step End more = Some []
on_step (Fault f) more = None

-- the entries from an offset on; each step passes bytes, so the number of bytes bounds the steps
unfoldable pub placed_from : (most : ℕ) → List ℕ → (at : ℕ) → Option (List PlacedEntry)
placed_from zero bytes at = Some []
placed_from (suc most) bytes at = on_step (step_at bytes at) (placed_from most bytes)

-- the entries in the blocks of a directory, if nothing is wrong behind them
abbrev pub placed_entries : List ℕ → Option (List PlacedEntry)
placed_entries bytes = placed_from (length bytes) bytes 0

-- these are they
abbrev pub AreEntriesOf : List ℕ → Option (Vec PlacedEntry) → Type 0
AreEntriesOf bytes entries = option_map (λ (v : Vec PlacedEntry). v.items) entries ≡ placed_entries bytes

-- the user data of an entry, with which it ends
abbrev pub user_data : List ℕ → PlacedEntry → List ℕ
user_data bytes p = if nat_lt (length bytes) p.end then [] else slice_range bytes (p.end - p.entry.user_bytes) p.end

-- the entries that `volume_labels` reads, if nothing is wrong behind them
abbrev pub if_right : Option DirectoryFault → List DirectoryEntry → Option (List DirectoryEntry)
if_right None entries = Some entries
if_right (Some fault) entries = None

-- They are the entries that `volume_labels` reads in these blocks.
abbrev pub EntriesAreThoseOfTheDirectory : Type 0
EntriesAreThoseOfTheDirectory = (bytes : List ℕ)
    → option_map (λ (l : List PlacedEntry). map (λ (p : PlacedEntry). p.entry) l) (placed_entries bytes)
    ≡ if_right (entries_of bytes).fault (entries_of bytes).entries
