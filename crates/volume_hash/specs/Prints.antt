-- Lines that are made one behind another of a volume whose slots are known.
use Rattle.std.specs.Prelude.{◌≡◌, ℕ, Bool, ◌&&◌, List, ◌++◌, Some}
use Rattle.ckd_track.specs.declared.geometries.Geometry.{Geometry}
use Rattle.volume_labels.specs.declared.fields.Extent.{Extent}
use Rattle.volume_labels.specs.declared.directories.DirectoryEntry.{DirectoryEntry}
use Rattle.std.specs.List.{flat_map, list_all}
use Rattle.dasd_volumes.specs.Reading.{KnownVolume}
use Rattle.volume_hash.specs.SetLines.{Shown}
use Rattle.volume_hash.specs.SetMessage.{member_message, member_is_whole, members_in, library_hash, library_is_whole}
use Rattle.volume_hash.specs.Sets.{member_line, hashes_text, is_all_whole}
use Rattle.volume_hash.specs.declared.items.Report.{Report}
use Rattle.volume_hash.specs.declared.libraries.Listed.{Listed}
use Rattle.volume_hash.specs.declared.libraries.LibraryHash.{LibraryHash}

-- a report goes on by these lines, and by whether what they tell of is whole
pub record Adds (text : Geometry → List (List ℕ) → List ℕ) (test : Geometry → List (List ℕ) → Bool) (v : KnownVolume) (before now : Report) : Type 0 where
  pub lines : (slots : List (List ℕ)) → v.slots ≡ Some slots → now.lines.items ≡ before.lines.items ++ text v.geometry slots
  pub whole : (slots : List (List ℕ)) → v.slots ≡ Some slots → now.is_whole ≡ (before.is_whole && test v.geometry slots)

-- the message of a data set goes on by a member, and the lines by its line
pub record AddsMember (f : Shown) (name : List ℕ) (extents : List Extent) (v : KnownVolume) (e : DirectoryEntry) (before now : Listed) : Type 0 where
  pub message : (slots : List (List ℕ)) → v.slots ≡ Some slots → now.message ≡ before.message ++ member_message extents v.geometry slots e
  pub lines : (slots : List (List ℕ)) → v.slots ≡ Some slots
      → now.report.lines.items ≡ before.report.lines.items ++ member_line f name extents v.geometry slots e
  pub whole : (slots : List (List ℕ)) → v.slots ≡ Some slots
      → now.report.is_whole ≡ (before.report.is_whole && member_is_whole extents v.geometry slots e)

-- or by several
pub record AddsMembers (f : Shown) (name : List ℕ) (extents : List Extent) (v : KnownVolume) (entries : List DirectoryEntry) (before now : Listed) : Type 0 where
  pub message : (slots : List (List ℕ)) → v.slots ≡ Some slots
      → now.message ≡ before.message ++ flat_map (member_message extents v.geometry slots) entries
  pub lines : (slots : List (List ℕ)) → v.slots ≡ Some slots
      → now.report.lines.items ≡ before.report.lines.items ++ flat_map (member_line f name extents v.geometry slots) entries
  pub whole : (slots : List (List ℕ)) → v.slots ≡ Some slots
      → now.report.is_whole ≡ (before.report.is_whole && list_all (member_is_whole extents v.geometry slots) entries)

-- this is the hash of a data set with members, whether it is whole, and the lines of its members
pub record IsHashOfLibrary (f : Shown) (name : List ℕ) (extents : List Extent) (v : KnownVolume) (h : LibraryHash) : Type 0 where
  pub digest : (slots : List (List ℕ)) → v.slots ≡ Some slots → h.hash.digest ≡ library_hash extents v.geometry slots
  pub whole : (slots : List (List ℕ)) → v.slots ≡ Some slots → h.hash.is_whole ≡ library_is_whole extents v.geometry slots
  pub lines : (slots : List (List ℕ)) → v.slots ≡ Some slots
      → h.lines.items ≡ flat_map (member_line f name extents v.geometry slots) (members_in extents v.geometry slots).entries

-- these are the lines of a volume and of what is asked for of it, and whether all of that is whole
pub record IsReportOf (f : Shown) (v : KnownVolume) (r : Report) : Type 0 where
  pub lines : (slots : List (List ℕ)) → v.slots ≡ Some slots → r.lines.items ≡ hashes_text f v.geometry slots
  pub whole : (slots : List (List ℕ)) → v.slots ≡ Some slots → r.is_whole ≡ is_all_whole f v.geometry slots

-- it is told whether all of it is whole
abbrev pub TellsWhole : Shown → KnownVolume → Bool → Type 0
TellsWhole f v whole = (slots : List (List ℕ)) → v.slots ≡ Some slots → whole ≡ is_all_whole f v.geometry slots
