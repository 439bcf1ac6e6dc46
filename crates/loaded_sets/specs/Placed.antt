-- A volume with a data set that was put onto it.
use Rattle.std.specs.Prelude.{◌≡◌, ◌⊎◌, ℕ, ◌+◌, ◌-◌, ◌<◌, ◌≤◌, List, [], ◌∷◌, ◌++◌, length, Some, Ok, Err}
use Rattle.std.specs.List.{position}
use Rattle.ckd_track.specs.declared.geometries.Geometry.{Geometry}
use Rattle.record_tracks.specs.Records.{Areas}
use Rattle.record_tracks.specs.Tracks.{left_behind, loaded_slot}
use Rattle.record_tracks.specs.ReadBack.{IsLoaded}
use Rattle.new_labels.specs.declared.set_blocks.NewDataSet.{NewDataSet}
use Rattle.new_labels.specs.SetBlocks.{data_set_data}
use Rattle.volume_labels.specs.declared.blocks.ContentsBlock.{ContentsBlock}
use Rattle.volume_labels.specs.declared.labels.VolumeLabel.{VolumeLabel}
use Rattle.volume_labels.specs.declared.fields.RecordAddress.{RecordAddress}
use Rattle.volume_contents.specs.Contents.{Said, contents_of, block_in, slot_at}
use Rattle.volume_contents.specs.Sets.{has_name, extents_behind}
use Rattle.volume_changes.specs.declared.blocks.BlockChange.{BlockChange}
use Rattle.volume_changes.specs.declared.refusal.ChangeRefusal.{ChangeRefusal}
use Rattle.volume_changes.specs.Space.{taken_of}
use Rattle.changed_volumes.specs.Changes.{IsHindered}
use Rattle.loaded_sets.specs.declared.place_fault.PlaceFault.{PlaceFault}
use Rattle.loaded_sets.specs.declared.place_fault.PlaceFault.TheVariants as fault
use Rattle.loaded_sets.specs.declared.place_fault.PlaceRefusal.{PlaceRefusal}
use Rattle.loaded_sets.specs.declared.place_fault.PlaceRefusal.TheVariants as refusal
use Rattle.loaded_sets.specs.declared.plans.PlacedSet.{PlacedSet}
use Rattle.loaded_sets.specs.Volumes.{Labelled, all_findings}
use Rattle.loaded_sets.specs.Sets.{areas, GetsTracks, HasNoRoom, IsNewSet}
use Rattle.loaded_sets.specs.Tables.{IsOfTable, HasNoFree, WritesBlock, ChangesElsewhere, last_of}

-- The tracks of a data set have its areas, each what is left behind those before it; all other slots are these.
pub record HasAreas (g : Geometry) (areas : List Areas) (first tracks : ℕ) (before now : List (List ℕ)) : Type 0 where
  pub within : (i : ℕ) → i < tracks → slot_at now (first + i) ≡ loaded_slot g (first + i) (left_behind g.model areas i)
  pub outside : (n : ℕ) → (n < first) ⊎ (first + tracks ≤ n) → slot_at now n ≡ slot_at before n
  pub same : length now ≡ length before

-- tracks that are neither the data set's nor the table's
abbrev pub IsElsewhere : Labelled → (first tracks n : ℕ) → Type 0
IsElsewhere v first tracks n = ((n < first) ⊎ (first + tracks ≤ n)) × (IsOfTable v.geometry v.table.extent n → ⊥)

-- A volume that says this has the data set: it has a label; the first format 1 block of the name is that one; there is a block more; the
-- format 4 block says where the last one is, and that one less is free; and nothing is wrong.
pub record HasSet (v : Labelled) (s : Said) (block : NewDataSet) (a : RecordAddress) (i : ℕ) : Type 0 where
  pub label : VolumeLabel
  pub says : s.label ≡ Some label
  pub found : position (has_name block.name) s.blocks ≡ Some i
  pub key : (block_in s.blocks i).key ≡ block.name
  pub bytes : (block_in s.blocks i).bytes ≡ data_set_data block
  pub more : length s.blocks ≡ length v.blocks + 1
  pub table : ContentsBlock
  pub counts : s.table ≡ Some table
  pub last : table.last_data_set ≡ last_of a v.table.last_data_set
  pub free : table.free_blocks ≡ v.table.free_blocks - 1
  pub nothing : all_findings v.geometry s ≡ []

-- The control block of a data set was written into a table of contents, and its records onto its tracks.
pub record IsWrittenOn (v : Labelled) (set : PlacedSet) (first tracks : ℕ) (block : NewDataSet) (before : List (List ℕ)) (a : RecordAddress)
    (now : List (List ℕ)) : Type 0 where
  pub changes : List BlockChange
  pub taken : taken_of v.geometry v.label.contents v.blocks first tracks ≡ Ok changes
  pub listed : List (List ℕ)
  pub writes : WritesBlock v changes (set.name ++ data_set_data block) before a listed
  pub holds : HasAreas v.geometry (areas set) first tracks listed now

-- A volume of these slots gets the data set: its tracks and its control block, what becomes of the table and of the tracks, that all other
-- tracks stay; and that a reader of the volume finds the data set, with one extent, on whose tracks its records are.
pub record GetsSet (v : Labelled) (set : PlacedSet) (before : List (List ℕ)) (tracks : ℕ) (now : List (List ℕ)) : Type 0 where
  pub first : ℕ
  pub gets : GetsTracks v before set first tracks
  pub block : NewDataSet
  pub new : IsNewSet v set first tracks block
  pub address : RecordAddress
  pub written : IsWrittenOn v set first tracks block before address now
  pub others : (n : ℕ) → IsElsewhere v first tracks n → slot_at now n ≡ slot_at before n
  pub place : ℕ
  pub has : HasSet v (contents_of v.geometry now) block address place
  pub extents : extents_behind (contents_of v.geometry now).blocks (block_in (contents_of v.geometry now).blocks place) ≡ block.extent ∷ []
  pub loaded : IsLoaded v.geometry (extents_behind (contents_of v.geometry now).blocks (block_in (contents_of v.geometry now).blocks place))
      now (areas set) tracks

-- the data set has room, and the blocks of format 5 have none for the runs of free tracks that are left then
abbrev pub IsUnsaid : ChangeRefusal → Labelled → (slots : List (List ℕ)) → PlacedSet → Type 0
IsUnsaid r v slots set =
    (first : ℕ) × (tracks : ℕ) × GetsTracks v slots set first tracks
    × (taken_of v.geometry v.label.contents v.blocks first tracks ≡ Err r)

-- The data set was written so, and a reader of the volume does not find it so.
pub record IsLost (v : Labelled) (set : PlacedSet) (first tracks : ℕ) (before : List (List ℕ)) : Type 0 where
  pub block : NewDataSet
  pub new : IsNewSet v set first tracks block
  pub address : RecordAddress
  pub now : List (List ℕ)
  pub written : IsWrittenOn v set first tracks block before address now
  pub lost : (i : ℕ) → HasSet v (contents_of v.geometry now) block address i → ⊥

-- Why a volume does not get a data set: there is no room for it; or there is, and the blocks of format 5 have none for the runs of free
-- tracks that are left, or there is no free control block; or a block that would change with it stands on no track of the table, or a reader
-- would not find it.
abbrev pub HasNoPlace : PlaceRefusal → Labelled → PlacedSet → (slots : List (List ℕ)) → Type 0
HasNoPlace refusal.NoRoom v set slots = HasNoRoom v slots set
HasNoPlace (refusal.Volume r) v set slots = IsUnsaid r v slots set
HasNoPlace refusal.NoFreeBlock v set slots =
    HasNoFree v.geometry v.table.extent slots × (first : ℕ) × (tracks : ℕ) × GetsTracks v slots set first tracks
HasNoPlace refusal.Unconfirmed v set slots =
    (first : ℕ) × (tracks : ℕ) × GetsTracks v slots set first tracks
    × (ChangesElsewhere v first tracks slots ⊎ IsLost v set first tracks slots)
HasNoPlace r v set slots = ⊥

-- it is refused so, or something hinders it
abbrev pub IsNotPlaced : PlaceFault → Labelled → PlacedSet → (slots : List (List ℕ)) → Type 0
IsNotPlaced (fault.Refused r) v set slots = HasNoPlace r v set slots
IsNotPlaced (fault.Job f) v set slots = IsHindered f
