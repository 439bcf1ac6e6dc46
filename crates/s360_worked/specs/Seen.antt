-- What is seen of a channel program that ended.
use Rattle.std.specs.Prelude.{ℕ, ◌+◌, List, [], ◌∷◌, Option, Some, None, Result, slice_index_or, slice_range}
use Rattle.ckd_track.specs.Track.{Track, track_of}
use Rattle.ckd_track.specs.declared.fault.SlotFault.{SlotFault}
use Rattle.ckd_sense.specs.SenseBytes.{sense_bytes}
use Rattle.ckd_command.specs.Drive.{IdleDrive, slots_of, track_number}
use Rattle.s360_words.specs.declared.words.Csw.{Csw}
use Rattle.s360_laws.specs.Endings.{Outcome, Ended, NotEnded}

-- how many units it took, the first one of Start I/O among them; its CSW; the sense bytes; and bytes of storage
pub record Seen : Type 0 where
  pub units : ℕ
  pub csw : Csw
  pub sense : List ℕ
  pub bytes : List ℕ

-- the same, of a program that ended, with `count` bytes of storage from an address on
abbrev pub seen : (address count : ℕ) → Outcome → Option Seen
seen address count (Ended used s e) =
    Some (record { units = used; csw = e.csw; sense = sense_bytes e.drive.sense; bytes = slice_range s.bytes address (address + count) })
seen address count (NotEnded standing) = None

-- what is seen of a program that ended
abbrev pub saw : (units : ℕ) → Csw → (sense bytes : List ℕ) → Option Seen
saw units csw sense bytes = Some (record { units = units; csw = csw; sense = sense; bytes = bytes })

-- a CSW with key 0
abbrev pub csw : (address unit channel count : ℕ) → Csw
csw address unit channel count =
    record { key = 0; address = address; unit = record { 0 = unit }; channel = record { 0 = channel }; count = count }

-- and one with a key
abbrev pub csw_with_key : (key address unit channel count : ℕ) → Csw
csw_with_key key address unit channel count = record (csw address unit channel count) { key = key }

-- six sense bytes, of which the first two report anything
abbrev pub sense_of : (first second : ℕ) → List ℕ
sense_of first second = first ∷ second ∷ 0 ∷ 0 ∷ 0 ∷ 0 ∷ []

-- the track under the arm of a drive
abbrev pub track_under_arm : IdleDrive → Result Track SlotFault
track_under_arm drive = track_of (slice_index_or (slots_of drive) (track_number drive) [])
