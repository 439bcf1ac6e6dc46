-- How the next area of a kind is reached from the number of a record.
use Rattle.std.specs.Prelude.{ℕ, ◌+◌, max, min, Bool, true, false, length, drop, nat_lt, if◌then◌else◌, find}
use Rattle.ckd_track.specs.Track.{Track}
use Rattle.ckd_position.specs.declared.areas.RecordPart.{RecordPart}
use Rattle.ckd_position.specs.declared.areas.RecordPart.TheVariants.{Count, Key}
use Rattle.ckd_position.specs.declared.areas.Area.{Area}
use Rattle.ckd_position.specs.declared.areas.Area.TheVariants.{Of}
use Rattle.ckd_position.specs.declared.areas.Position.{Position}
use Rattle.ckd_position.specs.declared.areas.Position.TheVariants.{At}
use Rattle.ckd_position.specs.declared.areas.Next.{Next}
use Rattle.ckd_position.specs.declared.areas.Next.TheVariants.{Found, IndexPassed}
use Rattle.ckd_position.specs.Areas.{areas_from, found}

-- a part of record i, if the track has that record
abbrev pub part_on : Track → RecordPart → ℕ → Next
part_on t part i = if nat_lt i (length t.records) then Found (Of part i) else IndexPassed

-- how many records of the track have begun to pass at a position
abbrev pub records_begun : Track → Position → ℕ
records_begun t (At (Of _ i)) = min (i + 1) (length t.records)
records_begun t _ = 0

-- the record of which no more than the count area has passed: the one whose count area passed last, or else the first one
-- behind record 0
abbrev pub key_record : Track → Position → ℕ
key_record t (At (Of Count i)) = i
key_record t position = max (records_begun t position) 1

-- the record whose data area has not passed: the one whose count or key area passed last, or else the first one behind
-- record 0
abbrev pub data_record : Track → Position → ℕ
data_record t (At (Of Count i)) = i
data_record t (At (Of Key i)) = i
data_record t position = max (records_begun t position) 1

-- whether the area is a key area
abbrev pub is_key : Area → Bool
is_key (Of Key _) = true
is_key _ = false

-- the first key area of the records from record i on
abbrev pub next_key_from : Track → ℕ → Next
next_key_from t i = found (find is_key (areas_from i (drop i t.records)))
