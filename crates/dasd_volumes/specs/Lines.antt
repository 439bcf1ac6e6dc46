-- What is printed of a volume. Hexadecimal digits are capitals.
use Rattle.std.specs.Prelude.{ℕ, ◌-◌, ◌^◌, ◌==◌, min, if◌then◌else◌, List, [], ◌∷◌, ◌++◌, true, length, replicate, codes, Result, Ok, Err}
use Rattle.std.specs.List.{flat_map, concat}
use Rattle.std.specs.Fmt.{digits, decimal}
use Rattle.ckd_track.specs.declared.model.DriveModel.{DriveModel}
use Rattle.ckd_track.specs.declared.geometries.Geometry.{Geometry}
use Rattle.ckd_track.specs.declared.fault.SlotFault.{SlotFault}
use Rattle.ckd_track.specs.declared.fault.SlotFault.TheVariants.{NoEnd, RecordPastEnd}
use Rattle.ckd_track.specs.Model.{heads_of, model_number_of}
use Rattle.ckd_track.specs.Track.{Record, Track}
use Rattle.ckd_track.specs.Charges.{used_of}

-- a number in hexadecimal digits, with zeros in front of it up to a width
abbrev pub hexadecimal : (width n : ℕ) → List ℕ
hexadecimal width n = replicate (width - length (digits 16 true n)) 48 ++ digits 16 true n

abbrev pub bytes_text : List ℕ → List ℕ
bytes_text bytes = flat_map (hexadecimal 2) bytes

-- where a track is
abbrev pub address_text : (cylinder head : ℕ) → List ℕ
address_text cylinder head = hexadecimal 4 cylinder ++ (codes " " ++ hexadecimal 4 head)

-- Why a slot spells no track. One without an end at its very beginning is shorter than a home address: of such a track nothing is there.
abbrev pub fault_text : SlotFault → List ℕ
fault_text (NoEnd offset) = if offset == 0 then codes "not in the file" else codes "no end at " ++ decimal offset
fault_text (RecordPastEnd offset) = codes "record past end at " ++ decimal offset

-- the end of a line
abbrev pub line_feed : List ℕ
line_feed = 10 ∷ []

-- the first line of a list
abbrev pub volume_line : Geometry → List ℕ
volume_line g = concat (
    decimal (model_number_of g.model) ∷ codes " " ∷ decimal g.cylinders ∷ codes " cylinders " ∷ decimal (heads_of g.model)
    ∷ codes " heads slot " ∷ decimal g.track_size ∷ line_feed ∷ [])

-- a track that can be read: its home address, how many records it has, and what they take of it
abbrev pub track_line : DriveModel → (cylinder head : ℕ) → Track → List ℕ
track_line model cylinder head t = concat (
    address_text cylinder head ∷ codes " HA " ∷ bytes_text t.home_address ∷ codes " records " ∷ decimal (length t.records)
    ∷ codes " used " ∷ decimal (min (used_of model t.records) (2 ^ 32 - 1)) ∷ line_feed ∷ [])

-- a record: its identifier, key length and data length
abbrev pub record_line : Record → List ℕ
record_line r = concat (
    codes "  " ∷ bytes_text r.id ∷ codes " KL " ∷ decimal (length r.key_area) ∷ codes " DL " ∷ decimal (length r.data_area) ∷ line_feed ∷ [])

-- a track that can't be read, with why
abbrev pub unreadable_line : (cylinder head : ℕ) → SlotFault → List ℕ
unreadable_line cylinder head fault = concat (address_text cylinder head ∷ codes " unreadable " ∷ fault_text fault ∷ line_feed ∷ [])

-- what a list prints of the track that a slot spells, or of one that can't be read
abbrev pub track_lines : DriveModel → (cylinder head : ℕ) → Result Track SlotFault → List ℕ
track_lines model cylinder head (Ok t) = track_line model cylinder head t ++ flat_map record_line t.records
track_lines model cylinder head (Err fault) = unreadable_line cylinder head fault
