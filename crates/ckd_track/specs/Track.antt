-- What a slot spells: five bytes of home address, and the records up to eight bytes FF
-- (component descriptions of the 2841 and the 2314, 'Track Format'; the CKD_P370 image layout).
use Rattle.std.specs.Prelude.{◌≡◌, ℕ, zero, suc, ◌+◌, ◌-◌, ◌*◌, ◌/◌, ◌%◌, ◌≤◌, ◌<◌, ◌⊎◌, Bool, false, nat_lt, if◌then◌else◌, List, [], ◌∷◌, ◌++◌, length, take}
use Rattle.std.specs.Prelude.{drop, flat_map, replicate, slice_index, slice_index_or, slice_range, Option, Some, None, Result, Ok, Err, bytes_eq, All}
use Rattle.ckd_track.specs.declared.fault.SlotFault.{SlotFault}
use Rattle.ckd_track.specs.declared.fault.SlotFault.TheVariants.{NoEnd, RecordPastEnd}

-- a record: its count area's cylinder, head and record number (5 bytes), its key area and its data area
pub record Record : Type 0 where
  pub id : List ℕ
  pub key_area : List ℕ
  pub data_area : List ℕ

-- a track that can be read: its home address (flag, cylinder, head: 5 bytes), and its records from R0 on
pub record Track : Type 0 where
  pub home_address : List ℕ
  pub records : List Record

-- How a track is spelled.

-- what stands behind the last record: eight bytes FF
abbrev pub end_mark : List ℕ
end_mark = replicate 8 255

-- the eight count bytes: the id, the key length (1 byte) and the data length (2 bytes, big-endian)
abbrev pub count_area : Record → List ℕ
count_area r = r.id ++ length r.key_area ∷ length r.data_area / 256 ∷ length r.data_area % 256 ∷ []

-- a record as it stands in a slot
abbrev pub record_bytes : Record → List ℕ
record_bytes r = count_area r ++ r.key_area ++ r.data_area

-- the bytes of a track: its home address, its records, and the end mark
abbrev pub spelling : Track → List ℕ
spelling t = t.home_address ++ (flat_map record_bytes t.records ++ end_mark)

-- a slot of this size that spells the track, with zeros behind the end mark
unfoldable pub slot_of : ℕ → Track → List ℕ
slot_of size t = spelling t ++ replicate (size - length (spelling t)) 0

-- a record that a slot can spell: its lengths fit its count bytes, which are not the end mark
pub record IsRecord (r : Record) : Type 0 where
  pub id : length r.id ≡ 5
  pub key_area : length r.key_area < 256
  pub data_area : length r.data_area < 65536
  -- eight bytes FF are the end mark and never a record
  pub no_end_mark : bytes_eq (count_area r) end_mark ≡ false

-- this slot spells this track, and any rest
pub record Spells (slot : List ℕ) (t : Track) : Type 0 where
  pub home_address : length t.home_address ≡ 5
  pub records : All IsRecord t.records
  pub rest : List ℕ
  pub bytes : slot ≡ spelling t ++ rest

-- from the home address up to the offset the slot's bytes are records, one after another
pub record RecordsUpTo (slot : List ℕ) (offset : ℕ) : Type 0 where
  pub behind_home_address : 5 ≤ offset
  pub within : offset ≤ length slot
  pub records : List Record
  pub are_records : All IsRecord records
  pub bytes : slice_range slot 5 offset ≡ flat_map record_bytes records

-- The one track that a slot spells.

-- the key length that count bytes give: the sixth of them
abbrev pub key_length : List ℕ → ℕ
key_length bytes = slice_index bytes 5

-- the data length that count bytes give: the last two of the eight, the high byte first
abbrev pub data_length : List ℕ → ℕ
data_length bytes = slice_index bytes 6 * 256 + slice_index bytes 7

-- how many bytes the key and the data take together
abbrev pub body_length : List ℕ → ℕ
body_length bytes = key_length bytes + data_length bytes

-- whether the end mark stands where the bytes begin
abbrev pub begins_with_end_mark : List ℕ → Bool
begins_with_end_mark bytes = bytes_eq (take 8 bytes) end_mark

-- the record that the bytes begin with
abbrev pub record_at : List ℕ → Record
record_at bytes = record {
  id = take 5 bytes;
  key_area = slice_range bytes 8 (8 + key_length bytes);
  data_area = slice_range bytes (8 + key_length bytes) (8 + body_length bytes);
}

-- Why a slot spells no whole track: it ends within its home address; or records stand one after another up to
-- the offset, and there fewer than eight bytes are left, or stands the count area of a record that runs over the end.
abbrev pub HasFault : List ℕ → SlotFault → Type 0
HasFault slot (NoEnd offset) =
    ((length slot < 5) × (offset ≡ 0)) ⊎ (RecordsUpTo slot offset × (length slot < offset + 8))
HasFault slot (RecordPastEnd offset) =
    RecordsUpTo slot offset × (offset + 8 ≤ length slot)
    × (begins_with_end_mark (drop offset slot) ≡ false) × (length slot < offset + 8 + body_length (drop offset slot))

-- the bytes begin with this record, and behind it is room for an end mark
pub record BeginsWith (bytes : List ℕ) (r : Record) : Type 0 where
  pub is_record : IsRecord r
  pub same : record_at bytes ≡ r
  pub count : take 8 bytes ≡ count_area r
  pub room : 16 + body_length bytes ≤ length bytes

-- a record before those of a good read, or the same fault
abbrev pub followed_by : Record → Result (List Record) SlotFault → Result (List Record) SlotFault
followed_by r (Ok rs) = Ok (r ∷ rs)
followed_by r (Err fault) = Err fault

-- the records that the bytes begin with, or the first fault; `at` is where the bytes lie in the slot,
-- and the first number bounds how many records are looked for
unfoldable pub records_from : ℕ → ℕ → List ℕ → Result (List Record) SlotFault
records_from zero at bytes = Err (NoEnd at)
records_from (suc most) at bytes =
    if nat_lt (length bytes) 8 then Err (NoEnd at)
    else (if begins_with_end_mark bytes then Ok []
    else (if nat_lt (length bytes) (8 + body_length bytes) then Err (RecordPastEnd at)
    else followed_by (record_at bytes)
    (records_from most (at + (8 + body_length bytes)) (drop (8 + body_length bytes) bytes))))

-- each record takes eight bytes or more, so the slot's length bounds their number
abbrev pub records_of : List ℕ → Result (List Record) SlotFault
records_of slot = if nat_lt (length slot) 5 then Err (NoEnd 0) else records_from (length slot) 5 (drop 5 slot)

-- the track of a home address and the records that were read behind it, or the same fault
abbrev pub behind_home_address : List ℕ → Result (List Record) SlotFault → Result Track SlotFault
behind_home_address ha (Ok rs) = Ok (record { home_address = ha; records = rs })
behind_home_address ha (Err fault) = Err fault

-- the one track that a slot spells; the track of a slot that spells none is unreadable, with the fault
unfoldable pub track_of : List ℕ → Result Track SlotFault
track_of slot = behind_home_address (take 5 slot) (records_of slot)

-- Looking into a track.

-- what stands in the place of a record that is not there
abbrev pub no_record : Record
no_record = record { id = []; key_area = []; data_area = [] }

-- record i of a track, R0 being record 0
abbrev pub record_in : Track → ℕ → Record
record_in t i = slice_index_or t.records i no_record

-- what stands in the place of a track that is not there
abbrev pub no_track : Track
no_track = record { home_address = []; records = [] }

-- the track that was read, or the one in its place
abbrev pub track_or_none : Result Track SlotFault → Track
track_or_none (Ok t) = t
track_or_none (Err fault) = no_track

-- the track that a slot spells, for slots that spell one
abbrev pub track_in : List ℕ → Track
track_in slot = track_or_none (track_of slot)

-- how many records were read, or the same fault
abbrev pub number_of_records : Result Track SlotFault → Result ℕ SlotFault
number_of_records (Ok t) = Ok (length t.records)
number_of_records (Err fault) = Err fault

-- Where the records stand.

-- the bytes that a record takes in a slot: eight count bytes, the key and the data
abbrev pub record_size : Record → ℕ
record_size r = 8 + (length r.key_area + length r.data_area)

-- the offsets of records that stand one after another
abbrev pub offsets_from : ℕ → List Record → List ℕ
offsets_from at [] = []
offsets_from at (r ∷ rs) = at ∷ offsets_from (at + record_size r) rs

-- the offset of each record's count area, in a slot that spells the track: R0 stands behind the home address
abbrev pub record_offsets : Track → List ℕ
record_offsets t = offsets_from 5 t.records

-- the offsets of the records of a track that was read, or the same fault
abbrev pub offsets_on : Result Track SlotFault → Result (List ℕ) SlotFault
offsets_on (Ok t) = Ok (record_offsets t)
offsets_on (Err fault) = Err fault

-- the offsets of the records that a slot spells, or the fault
abbrev pub offsets_of : List ℕ → Result (List ℕ) SlotFault
offsets_of slot = offsets_on (track_of slot)

-- what stands at an offset of a slot: a record of so many bytes, or the end mark, or neither
abbrev pub size_at : ℕ → List ℕ → Result (Option ℕ) SlotFault
size_at at bytes =
    if nat_lt (length bytes) 8 then Err (NoEnd at)
    else (if begins_with_end_mark bytes then Ok None
    else (if nat_lt (length bytes) (8 + body_length bytes) then Err (RecordPastEnd at)
    else Ok (Some (8 + body_length bytes))))
