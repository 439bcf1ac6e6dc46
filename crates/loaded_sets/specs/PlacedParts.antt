-- How the code holds what the contracts speak of; no public contract names these.
use Rattle.std.specs.Prelude.{◌≡◌, ℕ, ◌+◌, ◌-◌, ◌≤◌, List, length, Option, Some, Ok, Err}
use Rattle.std.specs.List.{position}
use Rattle.ckd_track.specs.declared.geometries.Geometry.{Geometry}
use Rattle.ckd_track.specs.Geometry.{tracks_of}
use Rattle.volume_labels.specs.declared.fields.Extent.{Extent}
use Rattle.volume_labels.specs.declared.fields.RecordAddress.{RecordAddress}
use Rattle.volume_labels.specs.Labels.{data_set_block_of}
use Rattle.new_labels.specs.declared.set_blocks.NewDataSet.{NewDataSet}
use Rattle.new_labels.specs.SetBlocks.{data_set_data, data_set_read}
use Rattle.new_labels.specs.Extents.{HasRun}
use Rattle.volume_changes.specs.declared.blocks.BlockChange.{BlockChange}
use Rattle.volume_changes.specs.Space.{taken_of}
use Rattle.volume_contents.specs.declared.blocks.Block.{Block}
use Rattle.volume_contents.specs.Contents.{Said, block_in}
use Rattle.volume_contents.specs.Sets.{has_name}
use Rattle.changed_volumes.specs.Changes.{IsHindered}
use Rattle.loaded_sets.specs.declared.place_fault.PlaceFault.{PlaceFault}
use Rattle.loaded_sets.specs.declared.place_fault.PlaceFault.TheVariants as fault
use Rattle.loaded_sets.specs.declared.place_fault.PlaceRefusal.TheVariants as refusal
use Rattle.loaded_sets.specs.declared.plans.PlacedSet.{PlacedSet}
use Rattle.loaded_sets.specs.declared.plans.Placed.{Placed}
use Rattle.loaded_sets.specs.Volumes.{Labelled}
use Rattle.loaded_sets.specs.Sets.{GetsTracks, HasNoRoom, IsNewSet}
use Rattle.loaded_sets.specs.Tables.{HasNoFree, IsFirstFree, ChangesWith, IsOutside, IsOneOutside, address_on, filled, last_of}
use Rattle.loaded_sets.specs.Placed.{HasSet, IsWrittenOn, IsUnsaid}

-- something hinders it
abbrev pub IsHinderedBy : PlaceFault → Type 0
IsHinderedBy (fault.Job f) = IsHindered f
IsHinderedBy f = ⊥

-- it has no room for a data set, or none for the runs of free tracks that are left
abbrev pub IsUnplaced : PlaceFault → Labelled → (slots : List (List ℕ)) → PlacedSet → Type 0
IsUnplaced (fault.Refused refusal.NoRoom) v slots set = HasNoRoom v slots set
IsUnplaced (fault.Refused (refusal.Volume r)) v slots set = IsUnsaid r v slots set
IsUnplaced f v slots set = IsHinderedBy f

-- the blocks of format 5 have no room for the runs that are left behind these tracks
abbrev pub IsUntaken : PlaceFault → Labelled → (first tracks : ℕ) → Type 0
IsUntaken (fault.Refused (refusal.Volume r)) v first tracks = taken_of v.geometry v.label.contents v.blocks first tracks ≡ Err r
IsUntaken f v first tracks = IsHinderedBy f

-- one of the control blocks that would change stands on no track of the table
abbrev pub IsOneLeftOut : PlaceFault → Geometry → Extent → List BlockChange → Type 0
IsOneLeftOut (fault.Refused refusal.Unconfirmed) g e changes = IsOneOutside g e changes
IsOneLeftOut f g e changes = IsHinderedBy f

-- a control block that would change stands on no track of the table
abbrev pub IsLeftOut : PlaceFault → Geometry → Extent → Option BlockChange → Type 0
IsLeftOut (fault.Refused refusal.Unconfirmed) g e change = IsOutside g e change
IsLeftOut f g e change = IsHinderedBy f

-- a reader does not find the data set
abbrev pub IsUnseen : PlaceFault → Labelled → Said → NewDataSet → RecordAddress → Type 0
IsUnseen (fault.Refused refusal.Unconfirmed) v s block a = (i : ℕ) → HasSet v s block a i → ⊥
IsUnseen f v s block a = IsHinderedBy f

-- the table with this extent has no free control block, or something hinders it
abbrev pub IsUnfound : PlaceFault → Geometry → Extent → (slots : List (List ℕ)) → Type 0
IsUnfound (fault.Refused refusal.NoFreeBlock) g e slots = HasNoFree g e slots
IsUnfound f g e slots = IsHinderedBy f

-- A control block was written into the first free one of such a table, which stands at this address.
pub record Fills (g : Geometry) (e : Extent) (body : List ℕ) (before : List (List ℕ)) (a : RecordAddress) (now : List (List ℕ)) : Type 0 where
  pub track : ℕ
  pub place : ℕ
  pub free : IsFirstFree g e before track place
  pub address : a ≡ address_on g before track place
  pub slots : now ≡ filled before track place body

-- the table has no free control block, or a block that would change stands on none of its tracks
abbrev pub IsUnlisted : PlaceFault → Labelled → List BlockChange → (slots : List (List ℕ)) → Type 0
IsUnlisted (fault.Refused refusal.NoFreeBlock) v changes slots = HasNoFree v.geometry v.table.extent slots
IsUnlisted (fault.Refused refusal.Unconfirmed) v changes slots = ChangesWith v changes slots
IsUnlisted f v changes slots = IsHinderedBy f

-- the data set goes there on such a volume
pub record IsPlaced (v : Labelled) (slots : List (List ℕ)) (set : PlacedSet) (p : Placed) : Type 0 where
  pub gets : GetsTracks v slots set p.run.first p.run.tracks
  pub taken : taken_of v.geometry v.label.contents v.blocks p.run.first p.run.tracks ≡ Ok p.changes.items
  pub some : 1 ≤ p.run.tracks
  pub within : p.run.first + p.run.tracks ≤ tracks_of v.geometry
  pub new : IsNewSet v set p.run.first p.run.tracks p.block
  pub run : HasRun v.geometry p.run.first p.run.tracks p.block.extent

-- it was written there, and its block stands at this address
pub record IsWritten (v : Labelled) (set : PlacedSet) (p : Placed) (before : List (List ℕ)) (a : RecordAddress) (now : List (List ℕ)) : Type 0 where
  pub written : IsWrittenOn v set p.run.first p.run.tracks p.block before a now
  pub read : data_set_block_of p.block.name (data_set_data p.block) ≡ data_set_read p.block

-- the first format 1 block of the name is this one
pub record IsFound (blocks : List Block) (block : NewDataSet) (i : ℕ) : Type 0 where
  pub found : position (has_name block.name) blocks ≡ Some i
  pub key : (block_in blocks i).key ≡ block.name
  pub bytes : (block_in blocks i).bytes ≡ data_set_data block

-- the volume lists it, beside those blocks that it had
pub record IsListed (v now : Labelled) (block : NewDataSet) (a : RecordAddress) (i : ℕ) : Type 0 where
  pub it : IsFound now.blocks block i
  pub more : length now.blocks ≡ length v.blocks + 1
  pub last : now.table.last_data_set ≡ last_of a v.table.last_data_set
  pub free : now.table.free_blocks ≡ v.table.free_blocks - 1
