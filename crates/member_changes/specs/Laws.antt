-- What users have of a change of a member.
use Rattle.std.specs.Prelude.{◌≡◌, ℕ, false, List, Some, Ok}
use Rattle.std.specs.List.{list_any}
use Rattle.ckd_track.specs.declared.geometries.Geometry.{Geometry}
use Rattle.volume_labels.specs.declared.fields.Extent.{Extent}
use Rattle.volume_contents.specs.Contents.{contents_of, slot_at}
use Rattle.record_tracks.specs.Entries.{EntryContents}
use Rattle.member_changes.specs.declared.entries.EntryChange.{EntryChange}
use Rattle.member_changes.specs.Entries.{entries_in, changed}
use Rattle.member_changes.specs.Libraries.{ReadDirectory, directory_on, library_of}
use Rattle.member_changes.specs.Places.{is_on, places_up_to}
use Rattle.member_changes.specs.Volumes.{member_changed}

-- the directory of a library with these extents is read whole, and has these entries
pub record HasEntries (extents : List Extent) (g : Geometry) (slots : List (List ℕ)) (entries : List EntryContents) : Type 0 where
  pub read : ReadDirectory
  pub whole : directory_on extents g slots ≡ Ok read
  pub has : entries_in read.bytes ≡ Some entries

-- A library of the name had these entries before, and has those that the change makes of them now, each with its address, notes and user data.
-- Tracks on which no block of the directory was are as they were.
pub record ChangesEntries (library : List ℕ) (change : EntryChange) (g : Geometry) (before now : List (List ℕ)) : Type 0 where
  pub extents : List Extent
  pub named : library_of (contents_of g before) library ≡ Ok extents
  pub old : List EntryContents
  pub new : List EntryContents
  pub had : HasEntries extents g before old
  pub changes : changed change old ≡ Ok new
  pub has : HasEntries extents g now new
  pub elsewhere : (n : ℕ) → list_any (is_on n) (places_up_to extents g before had.read.last) ≡ false → slot_at now n ≡ slot_at before n

-- So it is of each change that is not refused.
abbrev pub ChangesAreRead : Type 0
ChangesAreRead =
    (library : List ℕ) (change : EntryChange) (g : Geometry) (before now : List (List ℕ))
    → member_changed library change g before ≡ Ok now → ChangesEntries library change g before now
