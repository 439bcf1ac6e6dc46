-- What becomes of the table of contents of a volume that gets a data set.
use Rattle.std.specs.Prelude.{◌≡◌, ◌⊎◌, ℕ, ◌+◌, ◌-◌, ◌<◌, ◌≤◌, ◌==◌, Bool, not, nat_lt, if◌then◌else◌, List, length, slice_set}
use Rattle.std.specs.Prelude.{Option, Some, None, Ok}
use Rattle.std.specs.List.{position}
use Rattle.ckd_track.specs.declared.geometries.Geometry.{Geometry}
use Rattle.ckd_track.specs.Geometry.{tracks_of}
use Rattle.ckd_track.specs.Track.{track_of, track_in, record_in}
use Rattle.volume_labels.specs.declared.fields.Extent.{Extent}
use Rattle.volume_labels.specs.declared.fields.RecordAddress.{RecordAddress}
use Rattle.volume_contents.specs.declared.blocks.Block.{Block}
use Rattle.volume_contents.specs.Blocks.{address_of_record, has_address}
use Rattle.volume_contents.specs.Contents.{block_in, slot_at}
use Rattle.volume_contents.specs.Runs.{address_of_number, number}
use Rattle.volume_changes.specs.declared.blocks.BlockChange.{BlockChange}
use Rattle.volume_changes.specs.Blocks.{slot_with}
use Rattle.volume_changes.specs.Volumes.{changed_maybe}
use Rattle.volume_changes.specs.Deletions.{all_changed, change_in}
use Rattle.volume_changes.specs.Space.{taken_of}
use Rattle.new_labels.specs.SetBlocks.{updated_contents}
use Rattle.new_labels.specs.Tables.{free_place}
use Rattle.loaded_sets.specs.Volumes.{Labelled}

-- the volume's track n is one of a table of contents with this extent
pub record IsOfTable (g : Geometry) (e : Extent) (n : ℕ) : Type 0 where
  pub from : number g e.first ≤ n
  pub to : n ≤ number g e.last
  pub there : n < tracks_of g

-- all other tracks stay
abbrev pub StaysOutside : Geometry → Extent → (before now : List (List ℕ)) → Type 0
StaysOutside g e before now = (n : ℕ) → (IsOfTable g e n → ⊥) → slot_at now n ≡ slot_at before n

-- where the first free control block of a track stands
abbrev pub free_on : (slots : List (List ℕ)) → (n : ℕ) → Option ℕ
free_on slots n = free_place (track_of (slot_at slots n))

-- on this track stands the first free control block of the table, as this record
pub record IsFirstFree (g : Geometry) (e : Extent) (slots : List (List ℕ)) (n place : ℕ) : Type 0 where
  pub of_table : IsOfTable g e n
  pub free : free_on slots n ≡ Some place
  pub first : (m : ℕ) → number g e.first ≤ m → m < n → free_on slots m ≡ None

-- no track of the table has one
abbrev pub HasNoFree : Geometry → Extent → (slots : List (List ℕ)) → Type 0
HasNoFree g e slots = (n : ℕ) → IsOfTable g e n → free_on slots n ≡ None

-- the slots with another key and other data in that record
abbrev pub filled : (slots : List (List ℕ)) → (n place : ℕ) → (body : List ℕ) → List (List ℕ)
filled slots n place body = slice_set slots n (slot_with (slot_at slots n) body (Some place))

-- where that record stands
abbrev pub address_on : Geometry → (slots : List (List ℕ)) → (n place : ℕ) → RecordAddress
address_on g slots n place = address_of_record (address_of_number g n) (record_in (track_in (slot_at slots n)) place)

-- a control block stands behind another one
abbrev pub is_behind : RecordAddress → RecordAddress → Bool
is_behind a b =
    if not (a.track.cylinder == b.track.cylinder) then nat_lt b.track.cylinder a.track.cylinder
    else (if not (a.track.head == b.track.head) then nat_lt b.track.head a.track.head
    else nat_lt b.number a.number)

abbrev pub last_of : (a before : RecordAddress) → RecordAddress
last_of a before = if is_behind a before then a else before

-- The format 4 block, which stands where the label says, has this as the last format 1 block if it stands behind the one that was it, and
-- a free block one less.
abbrev pub count_at : Labelled → (a : RecordAddress) → Option ℕ → Option BlockChange
count_at v a None = None
count_at v a (Some i) = Some (record {
  block = block_in v.blocks i;
  key = (block_in v.blocks i).key;
  bytes = updated_contents (block_in v.blocks i).bytes (last_of a v.table.last_data_set) (v.table.free_blocks - 1);
})

abbrev pub count_change : Labelled → (a : RecordAddress) → Option BlockChange
count_change v a = count_at v a (position (has_address v.label.contents) v.blocks)

-- what becomes of the slots where the block of a data set was put at this address, with these changes of the blocks of format 5
abbrev pub counted : Labelled → List BlockChange → (a : RecordAddress) → (slots : List (List ℕ)) → List (List ℕ)
counted v changes a slots = all_changed v.geometry changes (changed_maybe v.geometry (count_change v a) slots)

-- The first free control block gets this key and data, and stands at this address; the format 4 block and those of format 5 follow. Of their
-- tracks all other records stay, and so do all tracks that are not the table's.
pub record WritesBlock (v : Labelled) (changes : List BlockChange) (body : List ℕ) (before : List (List ℕ)) (a : RecordAddress)
    (now : List (List ℕ)) : Type 0 where
  pub track : ℕ
  pub place : ℕ
  pub free : IsFirstFree v.geometry v.table.extent before track place
  pub address : a ≡ address_on v.geometry before track place
  pub slots : now ≡ counted v changes a (filled before track place body)
  pub others : StaysOutside v.geometry v.table.extent before now

-- a control block that changes stands on no track of the table
abbrev pub IsOutside : Geometry → Extent → Option BlockChange → Type 0
IsOutside g e None = ⊥
IsOutside g e (Some c) = IsOfTable g e (number g c.block.address.track) → ⊥

-- one of those that change does
abbrev pub IsOneOutside : Geometry → Extent → List BlockChange → Type 0
IsOneOutside g e changes = (i : ℕ) × (i < length changes) × IsOutside g e (Some (change_in changes i))

-- With a data set whose block takes the first free one, the format 4 block would change, and one of format 5 by these changes, and one of these
-- stands on no track of the table.
pub record ChangesWith (v : Labelled) (changes : List BlockChange) (slots : List (List ℕ)) : Type 0 where
  pub track : ℕ
  pub place : ℕ
  pub free : IsFirstFree v.geometry v.table.extent slots track place
  pub outside : IsOutside v.geometry v.table.extent (count_change v (address_on v.geometry slots track place))
      ⊎ IsOneOutside v.geometry v.table.extent changes

-- so it is with the changes that go with these tracks
abbrev pub ChangesElsewhere : Labelled → (first tracks : ℕ) → (slots : List (List ℕ)) → Type 0
ChangesElsewhere v first tracks slots =
    (changes : List BlockChange) × (taken_of v.geometry v.label.contents v.blocks first tracks ≡ Ok changes) × ChangesWith v changes slots
