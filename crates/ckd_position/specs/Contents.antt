-- The track that a slot spells, as a command reads and changes it
-- (component descriptions of the 2841 and the 2314, the sections of the commands).
use Rattle.std.specs.Prelude.{ℕ, ◌+◌, ◌-◌, List, [], ◌++◌, Bool, true, false, ◌==◌, Option, Some, None, Result, Ok, Err, length, take, drop, replicate}
use Rattle.std.specs.Prelude.{slice_index_or, slice_set}
use Rattle.ckd_track.specs.Track.{Record, Track, count_area, record_bytes, record_at, body_length, no_record, track_or_none}
use Rattle.ckd_track.specs.Changes.{kept_records, with_record}
use Rattle.ckd_track.specs.declared.fault.SlotFault.{SlotFault}
use Rattle.ckd_position.specs.declared.areas.Area.{Area}
use Rattle.ckd_position.specs.declared.areas.Area.TheVariants.{HomeAddress, Of}
use Rattle.ckd_position.specs.declared.extents.AreaBytes.{AreaBytes}
use Rattle.ckd_position.specs.declared.extents.AreaBytes.TheVariants as extent

-- the track under the arm: its home address and records, or why it can't be read
abbrev pub Sighted : Type 0
Sighted = Result Track SlotFault

-- the records of the track; none where it can't be read
abbrev pub records_on : Sighted → List Record
records_on t = (track_or_none t).records

-- the home address of the track; no byte where it can't be read
abbrev pub home_address_on : Sighted → List ℕ
home_address_on t = (track_or_none t).home_address

-- whether the track can be read
abbrev pub is_readable : Sighted → Bool
is_readable (Ok t) = true
is_readable (Err fault) = false

-- record i of the track; an empty one where there is none
abbrev pub record_on : Sighted → ℕ → Record
record_on t i = slice_index_or (records_on t) i no_record

-- these bytes, and zeros behind them up to the area's length
abbrev pub padded : List ℕ → (size : ℕ) → List ℕ
padded bytes size = bytes ++ replicate (size - length bytes) 0

-- which bytes of an area are meant
abbrev pub bytes_of : AreaBytes → Sighted → Area → List ℕ
bytes_of extent.CylinderAndHead t HomeAddress = drop 1 (home_address_on t)
bytes_of extent.HomeAddress t HomeAddress = home_address_on t
bytes_of extent.Identifier t (Of part i) = (record_on t i).id
bytes_of extent.Count t (Of part i) = count_area (record_on t i)
bytes_of extent.Key t (Of part i) = (record_on t i).key_area
bytes_of extent.Data t (Of part i) = (record_on t i).data_area
bytes_of extent.KeyAndData t (Of part i) = (record_on t i).key_area ++ (record_on t i).data_area
bytes_of extent.CountKeyAndData t (Of part i) = record_bytes (record_on t i)
bytes_of _ t a = []

-- whether the record that was found has no data: it is reported by unit exception
abbrev pub has_no_data : Sighted → Option Area → Bool
has_no_data t (Some (Of part i)) = length (record_on t i).data_area == 0
has_no_data t _ = false

-- An update.

-- a record with these bytes as its data, as long as it was
abbrev pub with_data : List ℕ → Record → Record
with_data b r = record r { data_area = padded b (length r.data_area) }

-- a record with these bytes as its key and data, each as long as it was
abbrev pub with_key_and_data : List ℕ → Record → Record
with_key_and_data b r =
    let bytes = padded b (length r.key_area + length r.data_area) in
    record r { key_area = take (length r.key_area) bytes; data_area = drop (length r.key_area) bytes }

-- a record with these bytes in the place of its data area, or of its key area and data area
abbrev pub replaced : AreaBytes → List ℕ → Record → Record
replaced extent.KeyAndData b = with_key_and_data b
replaced _ b = with_data b

-- the track with this change of the area's record; a home address is no record
abbrev pub with_record_changed : (Record → Record) → Area → Track → Track
with_record_changed change (Of part i) t = record t {
  records = slice_set t.records i (change (slice_index_or t.records i no_record));
}
with_record_changed change HomeAddress t = t

-- A formatting write.

-- the record behind which a formatting write makes its own: Write R0 behind none
abbrev pub record_before : Option Area → Option ℕ
record_before (Some (Of part i)) = Some i
record_before _ = None

-- the records that it keeps
abbrev pub kept : Sighted → Option Area → List Record
kept t after = kept_records (record_before after) (track_or_none t)

-- the record of these count bytes, and of key and data as far as they came, with zeros behind
abbrev pub new_record : List ℕ → Record
new_record b = record_at (padded b (8 + body_length b))

-- the kept records and the new one
abbrev pub formatted : Sighted → Option Area → List ℕ → Track
formatted t after b = with_record (record_before after) (new_record b) (track_or_none t)
