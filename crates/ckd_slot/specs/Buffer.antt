-- One slot at hand, and a table of its records.
use Rattle.std.specs.Prelude.{◌≡◌, ℕ, zero, suc, ◌+◌, ◌-◌, ◌/◌, ◌≤◌, ◌<◌, ◌^◌, List, Bool, true, false, Option, Some, None, Ok, length, take, map, flat_map}
use Rattle.std.specs.Prelude.{slice_range, slice_index, bytes_eq, All}
use Rattle.ckd_track.specs.Track.{Record, Track, IsRecord, Spells, track_of, track_in, record_offsets, record_in, record_bytes, spelling, slot_of, end_mark}
use Rattle.ckd_track.specs.Track.{key_length, data_length}
use Rattle.ckd_track.specs.declared.model.DriveModel.{DriveModel}
use Rattle.ckd_position.specs.declared.areas.Area.{Area}
use Rattle.ckd_position.specs.declared.areas.Area.TheVariants.{HomeAddress, Of}
use Rattle.ckd_position.specs.declared.areas.RecordPart.TheVariants as part
use Rattle.ckd_track.specs.Changes.{IsZeroFrom, end_offset, overwritten}
use Rattle.ckd_track.specs.Charges.{capacity_left, has_room}
use Rattle.ckd_slot.specs.declared.windows.Window.{Window}
use Rattle.ckd_slot.specs.declared.charges.Charged.{Charged}
use Rattle.ckd_position.specs.declared.extents.AreaBytes.{AreaBytes}
use Rattle.ckd_position.specs.declared.extents.AreaBytes.TheVariants as extent
use Rattle.ckd_position.specs.Contents.{Sighted, is_readable, records_on, kept, formatted}

-- these bytes stand there in the slot
pub record Lies (slot : List ℕ) (w : Window) (bytes : List ℕ) : Type 0 where
  pub within : w.start + w.len ≤ length slot
  pub size : length bytes ≡ w.len
  pub here : slice_range slot w.start (w.start + w.len) ≡ bytes

-- the table begins with the offsets of the records that the slot spells
pub record Tabled (slot offsets : List ℕ) (n : ℕ) : Type 0 where
  pub read : track_of slot ≡ Ok (track_in slot)
  pub spells : Spells slot (track_in slot)
  pub within : n ≤ length offsets
  pub table : take n offsets ≡ record_offsets (track_in slot)

-- where the slot spells a track its table has so many offsets; where it spells none there is no count
abbrev pub IsRead : List ℕ → List ℕ → Option ℕ → Type 0
IsRead slot offsets (Some n) = Tabled slot offsets n
IsRead slot offsets None = is_readable (track_of slot) ≡ false

-- a slot beside a table of offsets that has room for as many records as a slot of that length can spell
pub record IsIndexed (slot offsets : List ℕ) (records : Option ℕ) : Type 0 where
  pub room : (length slot - 5) / 8 ≤ length offsets
  pub size : length slot < 2 ^ 32
  pub read : IsRead slot offsets records

-- so much of the capacity is left by the first records, so many of them, where others follow them
abbrev pub IsCharged : List Record → Charged → Type 0
IsCharged rs c = c.left ≡ capacity_left c.model (take c.records rs)

-- a slot that is just what its track is spelled as, whose zeros begin behind the end mark
pub record IsExact (slot : List ℕ) (zeros_from : ℕ) : Type 0 where
  pub whole : slot ≡ slot_of (length slot) (track_in slot)
  pub zeros : zeros_from ≡ end_offset (track_in slot) + 8

-- a slot with its table and what its first records leave of the capacity, of which only the bytes before an offset can be other than zero,
-- and which may be known to be exact
pub record IsBuffer (slot offsets : List ℕ) (records : Option ℕ) (zeros_from : ℕ) (charged : Charged) (exact : Bool) : Type 0 where
  pub indexed : IsIndexed slot offsets records
  pub cleared : IsZeroFrom slot zeros_from
  pub charges : IsCharged (track_in slot).records charged
  pub as_spelled : exact ≡ true → IsExact slot zeros_from

-- where these bytes of the home address stand
abbrev pub home_address_place : AreaBytes → Window
home_address_place extent.HomeAddress = record { start = 0; len = 5 }
home_address_place extent.CylinderAndHead = record { start = 1; len = 4 }
home_address_place _ = record { start = 0; len = 0 }

-- where these bytes of a record stand, by where its count area stands and by the lengths of its key and data
abbrev pub record_place : AreaBytes → (at key data_bytes : ℕ) → Window
record_place extent.Identifier at key data_bytes = record { start = at; len = 5 }
record_place extent.Count at key data_bytes = record { start = at; len = 8 }
record_place extent.Key at key data_bytes = record { start = at + 8; len = key }
record_place extent.Data at key data_bytes = record { start = at + 8 + key; len = data_bytes }
record_place extent.KeyAndData at key data_bytes = record { start = at + 8; len = key + data_bytes }
record_place extent.CountKeyAndData at key data_bytes = record { start = at; len = 8 + key + data_bytes }
record_place _ at key data_bytes = record { start = 0; len = 0 }

-- the window is where these bytes of a record of the track stand
abbrev pub IsPlaceOf : AreaBytes → Track → Area → Window → Type 0
IsPlaceOf e t HomeAddress w = Unit {0}
IsPlaceOf e t (Of part i) w = i < length t.records → w ≡ record_place e (slice_index (record_offsets t) i)
    (length (record_in t i).key_area) (length (record_in t i).data_area)

-- record i stands there, or is not there
abbrev pub StandsThere : List ℕ → ℕ → Option ℕ → Type 0
StandsThere slot i None = length (records_on (track_of slot)) ≤ i
StandsThere slot i (Some at) = (i < length (track_in slot).records)
    × (at ≡ slice_index (record_offsets (track_in slot)) i)

-- the area is one of the track's, or one of which no bytes are asked where it is none of the track's
abbrev pub HasBytes : AreaBytes → Sighted → Area → Type 0
HasBytes extent.Count t (Of part i) = i < length (records_on t)
HasBytes extent.CountKeyAndData t (Of part i) = i < length (records_on t)
HasBytes e t a = Unit {0}

-- how many bytes the key and the data of each record have
abbrev pub lengths_on : Track → List (ℕ × ℕ)
lengths_on t = map (λ r. (length r.key_area, length r.data_area)) t.records

-- a slot whose records have keys and data as long as those of another, and so stand where those do
pub record SameRecords (old new : List ℕ) : Type 0 where
  pub old_read : track_of old ≡ Ok (track_in old)
  pub spells : Spells new (track_in new)
  pub read : track_of new ≡ Ok (track_in new)
  pub lengths : lengths_on (track_in new) ≡ lengths_on (track_in old)

-- a track whose records can be spelled, and which a slot of this size holds
pub record FitsSlot (size : ℕ) (t : Track) : Type 0 where
  pub home_address : length t.home_address ≡ 5
  pub records : All IsRecord t.records
  pub room : length (spelling t) ≤ size

-- what an update changes
abbrev pub IsUpdate : AreaBytes → Type 0
IsUpdate extent.Data = Unit {0}
IsUpdate extent.KeyAndData = Unit {0}
IsUpdate _ = ⊥

-- where so many records end
abbrev pub end_of_records : Track → ℕ → ℕ
end_of_records t n = length t.home_address + length (flat_map record_bytes (take n t.records))

-- the area is that of a record which the track has
abbrev pub IsRecordOf : Track → Area → Type 0
IsRecordOf t (Of part i) = i < length t.records
IsRecordOf t HomeAddress = ⊥

-- what an update changes of this record of the track stands there
pub record IsUpdateAt (t : Track) (e : AreaBytes) (a : Area) (w : Window) : Type 0 where
  pub update : IsUpdate e
  pub there : IsRecordOf t a
  pub place : IsPlaceOf e t a w

-- what some update changes of some record of the track stands there
pub record HasUpdateAt (t : Track) (w : Window) : Type 0 where
  pub extent : AreaBytes
  pub area : Area
  pub is : IsUpdateAt t extent area w

-- how many records stand before one that is made behind this one
abbrev pub number_up_to : Option ℕ → ℕ
number_up_to None = 0
number_up_to (Some i) = i + 1

-- A formatting write.

-- whether a new record with these count bytes fits the track behind this area
abbrev pub fits_track : DriveModel → Option Area → (count : List ℕ) → Sighted → Bool
fits_track model after count t = has_room model (kept t after) (key_length count) (data_length count)

-- it fits a track of a slot of this size, has this number, and its key and data stand there
pub record HasFormatted (model : DriveModel) (size : ℕ) (after : Option Area) (count : List ℕ) (t : Sighted)
    (number : ℕ) (rest : Window) : Type 0 where
  pub fits : fits_track model after count t ≡ true
  pub is_last : number ≡ length (kept t after)
  pub spelled : FitsSlot size (formatted t after count)
  pub place : IsPlaceOf extent.KeyAndData (formatted t after count) (Of part.Data number) rest

-- the number of a new record behind this area, and where its key and data would stand; none where it does not fit the track
abbrev pub Places : DriveModel → (size : ℕ) → Option Area → (count : List ℕ) → Sighted → Option (ℕ × Window) → Type 0
Places model size after count t (Some n) = HasFormatted model size after count t n.0 n.1
Places model size after count t None = fits_track model after count t ≡ false

-- the area behind which a record of this number is made
abbrev pub area_before : ℕ → Option Area
area_before zero = None
area_before (suc i) = Some (Of part.Data i)

-- the track with a new record of this number and of these count bytes, and with none behind it
abbrev pub made_on : Sighted → (number : ℕ) → (count : List ℕ) → Track
made_on t number count = formatted t (area_before number) count

-- such a record can be made in a slot of this size, has its key and data at the place, and may begin with these bytes
pub record CanMake (size : ℕ) (t : Sighted) (number : ℕ) (count : List ℕ) (w : Window) (bytes : List ℕ) : Type 0 where
  pub there : number ≤ length (records_on t)
  pub no_end_mark : bytes_eq count end_mark ≡ false
  pub fits : FitsSlot size (made_on t number count)
  pub place : IsPlaceOf extent.KeyAndData (made_on t number count) (Of part.Data number) w
  pub room : length bytes ≤ w.len
  pub begins : SameRecords (slot_of size (made_on t number count)) (overwritten (slot_of size (made_on t number count)) w.start bytes)
