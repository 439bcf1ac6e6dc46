-- Where a data set goes on a volume, and what its control block says.
use Rattle.std.specs.Prelude.{◌≡◌, ◌⊎◌, ℕ, ◌-◌, ◌≤◌, ◌<◌, max, List, length, take, All, Some, None}
use Rattle.ckd_track.specs.declared.model.DriveModel.{DriveModel}
use Rattle.record_tracks.specs.Records.{Areas, all_areas, RecordGoesOn, balance_behind}
use Rattle.record_tracks.specs.Tracks.{Takes, StandsAt, left_behind}
use Rattle.new_labels.specs.declared.set_blocks.NewDataSet.{NewDataSet}
use Rattle.new_labels.specs.Extents.{extent_of_run}
use Rattle.new_labels.specs.Runs.{IsFirstRun, IsApart}
use Rattle.loaded_sets.specs.declared.plans.PlacedSet.{PlacedSet}
use Rattle.loaded_sets.specs.Volumes.{Labelled, taken_extents}
use Rattle.loaded_sets.specs.Space.{space}

-- the areas of its records
abbrev pub areas : PlacedSet → List Areas
areas set = all_areas set.records.now

-- records that are some, each of which goes on a track of the drive, and of which so many are there up to the last one of the label
pub record CanBePlaced (model : DriveModel) (set : PlacedSet) : Type 0 where
  pub each : All (RecordGoesOn model) set.records.now
  pub some : 1 ≤ length set.records.now
  pub last : set.last ≤ length set.records.now

-- A data set gets so many tracks: those that its records take, and no fewer have room for them; or as many as it gets at least, where these
-- are more.
pub record HasRoom (model : DriveModel) (set : PlacedSet) (tracks : ℕ) : Type 0 where
  pub used : ℕ
  pub takes : Takes model (areas set) used
  pub all : tracks ≡ max set.label.tracks used

-- These are the first tracks of the volume that stand one behind another and are free: that neither the label nor the table of contents nor
-- a data set has, and that nothing else keeps back.
pub record GetsTracks (v : Labelled) (slots : List (List ℕ)) (set : PlacedSet) (first tracks : ℕ) : Type 0 where
  pub room : HasRoom v.geometry.model set tracks
  pub few : tracks ≤ 65536
  pub free : IsFirstRun v.geometry (space v slots) tracks (Some first)
  pub apart : IsApart v.geometry (taken_extents v) tracks first

-- it would get more tracks than a data set can have, or the volume has not so many free ones one behind another
abbrev pub HasNoRoom : Labelled → (slots : List (List ℕ)) → PlacedSet → Type 0
HasNoRoom v slots set = (tracks : ℕ) × HasRoom v.geometry.model set tracks
    × ((65536 < tracks) ⊎ IsFirstRun v.geometry (space v slots) tracks None)

-- The last of the first so many records stands on this track, from 0 on, with this number, from 1 on; of none it is number 0 of the first
-- track.
pub record IsLast (model : DriveModel) (areas : List Areas) (count track number : ℕ) : Type 0 where
  pub none : count ≡ 0 → (track ≡ 0) × (number ≡ 0)
  pub some : 1 ≤ count → StandsAt model areas (count - 1) track number

-- What the format 1 block of a data set on these tracks says: the volume's serial number, what its label is to say, the last record and what
-- its track has left behind it, and the tracks as its one extent.
pub record IsNewSet (v : Labelled) (set : PlacedSet) (first tracks : ℕ) (s : NewDataSet) : Type 0 where
  pub name : s.name ≡ set.name
  pub serial : s.serial ≡ v.label.serial
  pub created : s.created ≡ set.label.created
  pub expires : s.expires ≡ set.label.expires
  pub organisation : s.organisation ≡ set.label.organisation
  pub format : s.format ≡ set.label.format
  pub block_length : s.block_length ≡ set.label.block_length
  pub record_length : s.record_length ≡ set.label.record_length
  pub key_length : s.key_length ≡ set.label.key_length
  pub last : IsLast v.geometry.model (areas set) set.last s.last.track s.last.number
  pub balance : s.balance ≡ balance_behind v.geometry.model (take s.last.number (left_behind v.geometry.model (areas set) s.last.track))
  pub extent : s.extent ≡ extent_of_run v.geometry first tracks
  pub kept : s.kept ≡ set.label.kept
