-- A small volume of a 2311, in three states, for commands that are worked out by hand.
use Rattle.std.specs.Prelude.{ℕ, List, [], ◌∷◌, ◌++◌, replicate, Some}
use Rattle.ckd_track.specs.Track.{Record, Track, slot_of}
use Rattle.ckd_track.specs.declared.model.DriveModel.TheVariants.{D2311, D2314}
use Rattle.ckd_position.specs.declared.areas.Position.{Position}
use Rattle.ckd_sense.specs.Masks.{mask_of_byte}
use Rattle.ckd_command.specs.Drive.{State, Volume, begin_program, no_sense}
use Rattle.ckd_command.specs.declared.registers.Credit.{Credit}
use Rattle.ckd_command.specs.declared.registers.Mark.TheVariants.{Written, Lost}
use Rattle.ckd_command.specs.declared.registers.Lap.TheVariants.{Second}

-- each slot has so many bytes: shorter than an image's, since the definitions take any track size
abbrev pub slot_size : ℕ
slot_size = 72

-- a record of cylinder 0 at a head
abbrev pub record_of : (head number : ℕ) → (key contents : List ℕ) → Record
record_of head number key contents =
    record { id = 0 ∷ 0 ∷ 0 ∷ head ∷ number ∷ []; key_area = key; data_area = contents }

-- a track of cylinder 0 with its own home address
abbrev pub track_of_head : (head : ℕ) → List Record → Track
track_of_head head records = record { home_address = 0 ∷ 0 ∷ 0 ∷ 0 ∷ head ∷ []; records = records }

-- R0 as a new track has it
abbrev pub usual_r0 : (head : ℕ) → Record
usual_r0 head = record_of head 0 [] (replicate 8 0)

-- Head 0: behind R0 a record with key A1 A5 and four bytes C1; one with neither key nor data; and one with key B1 B5 and four
-- bytes C3.

-- record 1, with a key of two bytes
abbrev pub first_record : Record
first_record = record_of 0 1 (0xA1 ∷ 0xA5 ∷ []) (replicate 4 0xC1)

-- record 2, with no key and no data
abbrev pub second_record : Record
second_record = record_of 0 2 [] []

-- record 3, with a key of two bytes
abbrev pub third_record : Record
third_record = record_of 0 3 (0xB1 ∷ 0xB5 ∷ []) (replicate 4 0xC3)

-- the track with another first record
abbrev pub track_0_with : Record → Track
track_0_with first = track_of_head 0 (usual_r0 0 ∷ first ∷ second_record ∷ third_record ∷ [])

-- the track at head 0
abbrev pub track_0 : Track
track_0 = track_0_with first_record

-- Head 1: an R0 with key E0 and no data; and a record with key E1 and no data.

-- the track at head 1
abbrev pub track_1 : Track
track_1 = track_of_head 1 (record_of 1 0 (0xE0 ∷ []) [] ∷ record_of 1 1 (0xE1 ∷ []) [] ∷ [])

-- Head 9, the last of the cylinder: R0 alone.

-- the track at head 9
abbrev pub track_9 : Track
track_9 = track_of_head 9 (usual_r0 9 ∷ [])

-- the slot that spells a track
abbrev pub slot : Track → List ℕ
slot t = slot_of slot_size t

-- A volume of two cylinders, with this slot first. The slots of the tracks that are not named here have no bytes, and those tracks
-- can't be read.
abbrev pub slots_with : (first : List ℕ) → List (List ℕ)
slots_with first = first ∷ slot track_1 ∷ replicate 7 [] ++ slot track_9 ∷ replicate 10 []

-- the volume whose first slot this is
abbrev pub volume_with : (first : List ℕ) → Volume
volume_with first = record { geometry = record { model = D2311; cylinders = 2; track_size = slot_size }; slots = slots_with first }

-- The drive as a program begins: at the index of this track.
abbrev pub drive_over : (first : List ℕ) → (cylinder head : ℕ) → State
drive_over first cylinder head =
    begin_program (record { volume = volume_with first; cylinder = cylinder; head = head; sense = no_sense })

-- the drive over a volume with this first track, at cylinder 0 and head 0
abbrev pub drive_with : (first : Track) → State
drive_with first = drive_over (slot first) 0 0

-- the drive at this cylinder and head
abbrev pub at_track : (cylinder head : ℕ) → State
at_track cylinder head = drive_over (slot track_0) cylinder head

-- the drive at this head of cylinder 0
abbrev pub at_head : (head : ℕ) → State
at_head head = at_track 0 head

-- the drive at head 0
abbrev pub drive : State
drive = at_head 0

-- a 2314 whose slots have no bytes
abbrev pub drive_of_a_2314 : State
drive_of_a_2314 = begin_program (record {
  volume = record { geometry = record { model = D2314; cylinders = 1; track_size = slot_size }; slots = replicate 20 [] };
  cylinder = 0;
  head = 0;
  sense = no_sense;
})

-- In the course of a program.

-- where this area passed last
abbrev pub behind : Position → State → State
behind position s = record s { registers = record s.registers { position = position } }

-- where the command before left this credit
abbrev pub credited_with : Credit → State → State
credited_with credit s = record s { registers = record s.registers { credit = Some credit } }

-- under the file mask of this byte
abbrev pub masked_by : (byte : ℕ) → State → State
masked_by byte s = record s { registers = record s.registers { file_mask = mask_of_byte byte } }

-- on the second turn of the track
abbrev pub on_second_turn : State → State
on_second_turn s = record s { registers = record s.registers { lap = Second } }

-- where the track under the arm was written, or could not be saved
abbrev pub written : State → State
written s = record s { mark = Written }

-- a track that could not be saved
abbrev pub lost_track : State → State
lost_track s = record s { mark = Lost }
