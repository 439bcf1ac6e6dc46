-- How many tracks differ from those of a second volume.
use Rattle.std.specs.Prelude.{◌≡◌, ℕ, ◌+◌, ◌^◌, ◌<◌, List, Some, length}
use Rattle.dasd_volumes.specs.Reading.{KnownVolume}
use Rattle.dasd_archive.specs.Compare.{changed_beside}
use Rattle.dasd_volumes.specs.Volumes.{ReadTrack}

-- a track was counted where it differs, if the slots of the second volume are known and the number fits 32 bits; that volume stays
pub record CountsTrack (before : KnownVolume) (differing : ℕ) (t : ReadTrack) (now : KnownVolume) (differing_now : ℕ) : Type 0 where
  pub volume : now ≡ before
  pub number : (other_slots : List (List ℕ)) → before.slots ≡ Some other_slots → differing + length (changed_beside other_slots t) < 2 ^ 32
      → differing_now ≡ differing + length (changed_beside other_slots t)
