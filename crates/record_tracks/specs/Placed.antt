-- The records of a library, by which its addresses are found.
use Rattle.std.specs.Prelude.{◌≡◌, ◌<◌, length, All, None}
use Rattle.record_tracks.specs.Records.{all_areas, RecordGoesOn}
use Rattle.record_tracks.specs.declared.addresses.Placed.{Placed}
use Rattle.record_tracks.specs.declared.libraries.MemberEntry.{MemberEntry}
use Rattle.record_tracks.specs.declared.libraries.NewLibrary.{NewLibrary}
use Rattle.record_tracks.specs.Library.{blocks_of_member}
use Rattle.record_tracks.specs.MemberEntries.{blank_areas}
use Rattle.record_tracks.specs.LibraryFaults.{length_fault}

-- the records are those of the library with a blank directory, and each goes on a track of the drive
pub record AreRecords (p : Placed) : Type 0 where
  pub records : all_areas p.records.now ≡ blank_areas p.library.now
  pub go : All (RecordGoesOn p.model) p.records.now

-- and addresses can say their tracks
pub record ArePlaced (p : Placed) : Type 0 where
  pub are : AreRecords p
  pub within : length_fault p.model p.library.now ≡ None

-- an entry has a member, and each of its notes leads to a block of that
pub record Leads (l : NewLibrary) (e : MemberEntry) : Type 0 where
  pub member : e.member < length l.members.now
  pub notes : All (λ n. n.block < length (blocks_of_member l.members.now e.member)) e.notes.now
