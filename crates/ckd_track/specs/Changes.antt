-- What writes leave of a track (component descriptions of the 2841 and the 2314, 'Write Commands').
use Rattle.std.specs.Prelude.{◌≡◌, ℕ, ◌+◌, ◌-◌, ◌≤◌, List, [], ◌∷◌, ◌++◌, length, take, drop, flat_map, replicate, slice_set, slice_index, Option, None, Some}
use Rattle.ckd_track.specs.Track.{Record, Track, record_bytes, record_in, record_offsets, end_mark}

-- a track with this home address and no record
abbrev pub bare_track : List ℕ → Track
bare_track ha = record { home_address = ha; records = [] }

-- the records that a new one leaves before it: none, or records 0 to i
abbrev pub kept_records : Option ℕ → Track → List Record
kept_records None t = []
kept_records (Some i) t = take (i + 1) t.records

-- the kept records and the new one, and nothing behind it
abbrev pub with_record : Option ℕ → Record → Track → Track
with_record after new t = record t { records = kept_records after t ++ new ∷ [] }

-- record i with another data area
abbrev pub with_data : ℕ → List ℕ → Track → Track
with_data i body t = record t { records = slice_set t.records i (record (record_in t i) { data_area = body }) }

-- a record with other bytes in its key area and its data area
abbrev pub with_body : List ℕ → Record → Record
with_body body r = record r { key_area = take (length r.key_area) body; data_area = drop (length r.key_area) body }

-- record i with another key area and another data area
abbrev pub with_key_data : ℕ → List ℕ → Track → Track
with_key_data i body t = record t { records = slice_set t.records i (with_body body (record_in t i)) }

-- Where things stand in a slot that spells the track.

-- the data area of record i
abbrev pub data_offset : Track → ℕ → ℕ
data_offset t i = slice_index (record_offsets t) i + (8 + length (record_in t i).key_area)

-- a new record
abbrev pub offset_behind : Track → Option ℕ → ℕ
offset_behind t after = length t.home_address + length (flat_map record_bytes (kept_records after t))

-- the end mark
abbrev pub end_offset : Track → ℕ
end_offset t = length t.home_address + length (flat_map record_bytes t.records)

-- What is done to the bytes of a slot.

-- these bytes from there on, and all else as it was
abbrev pub overwritten : List ℕ → ℕ → List ℕ → List ℕ
overwritten old at bytes = take at old ++ (bytes ++ drop (at + length bytes) old)

-- the end mark there, and zeros behind it
abbrev pub ended_at : List ℕ → ℕ → List ℕ
ended_at old at = take at old ++ (end_mark ++ replicate (length old - (at + 8)) 0)

-- from there on all bytes are zero
pub record IsZeroFrom (slot : List ℕ) (from : ℕ) : Type 0 where
  pub within : from ≤ length slot
  pub zeros : drop from slot ≡ replicate (length slot - from) 0
