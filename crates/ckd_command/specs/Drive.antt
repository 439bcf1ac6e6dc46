-- One command at a drive, as changes of its state; faults of the store are inputs
-- (component descriptions of the 2841 and the 2314).
use Rattle.std.specs.Prelude.{ℕ, List, [], Bool, true, false, Option, Some, None, slice_index_or, slice_set, bit_or}
use Rattle.ckd_track.specs.Track.{Track, track_of, slot_of}
use Rattle.ckd_track.specs.Geometry.{track_at}
use Rattle.s360_words.specs.Storage.{overwritten}
use Rattle.s360_words.specs.Words.{has}
use Rattle.s360_words.specs.declared.flags.UnitStatus.{UnitStatus}
use Rattle.s360_words.specs.declared.flags.TheConstants.UnitStatus.{UNIT_CHECK}
use Rattle.ckd_track.specs.declared.geometries.Geometry.{Geometry}
use Rattle.ckd_position.specs.declared.areas.Position.TheVariants.{AtIndex}
use Rattle.ckd_sense.specs.Masks.{mask_of_byte, is_write}
use Rattle.ckd_sense.specs.declared.sense_bytes.Sense.{Sense}
use Rattle.ckd_sense.specs.declared.sense_bytes.TheConstants.Sense.{ZERO, EQUIPMENT_CHECK, STORE_FAULT}
use Rattle.ckd_command.specs.declared.registers.Registers.{Registers}
use Rattle.ckd_command.specs.declared.registers.Mark.{Mark}
use Rattle.ckd_command.specs.declared.registers.Mark.TheVariants.{Saved, Written, Lost}
use Rattle.ckd_command.specs.declared.registers.Lap.TheVariants.{First}
use Rattle.ckd_command.specs.declared.tables.Aim.{Aim}
use Rattle.ckd_command.specs.declared.tables.Aim.TheVariants.{Next}
use Rattle.ckd_command.specs.declared.begin.Opened.{Opened}
use Rattle.ckd_command.specs.Answers.{Beginning, Sight, moved_to}
use Rattle.ckd_command.specs.Answers as answer
use Rattle.ckd_command.specs.Tables.{aim, action_of, is_giving}
use Rattle.ckd_position.specs.Contents.{Sighted}
use Rattle.ckd_command.specs.Commands.{Closing, beginning, sight, area_bytes, length_after, closing, with_cause, program_start, unit_check_status}

-- A volume: a slot for each track, cylinder by cylinder and head by head.
pub record Volume : Type 0 where
  pub geometry : Geometry
  pub slots : List (List ℕ)

-- A drive between programs.
pub record IdleDrive : Type 0 where
  pub volume : Volume
  pub cylinder : ℕ
  pub head : ℕ
  pub sense : Sense

-- A drive while a program runs.
pub record State : Type 0 where
  pub volume : Volume
  pub registers : Registers
  pub mark : Mark

-- no cause of unit check
abbrev pub no_sense : Sense
no_sense = ZERO

-- whether the sense has equipment check, the bit of a failed call of the store
abbrev pub tells_equipment_check : Sense → Bool
tells_equipment_check sense = has sense.0 EQUIPMENT_CHECK.0

-- what a drive remembers as a program begins
abbrev pub registers_of : IdleDrive → Registers
registers_of d = program_start (record {
  cylinder = d.cylinder;
  head = d.head;
  sense = d.sense;
  position = AtIndex;
  file_mask = mask_of_byte 0x00;
  mask_set = false;
  credit = None;
  lap = First;
})

-- a drive as a program begins on it: nothing is written yet
abbrev pub begin_program : IdleDrive → State
begin_program d = record { volume = d.volume; registers = registers_of d; mark = Saved }

-- what of the state stays between programs
abbrev pub drive_of : State → IdleDrive
drive_of s = record {
  volume = s.volume;
  cylinder = s.registers.cylinder;
  head = s.registers.head;
  sense = s.registers.sense;
}

-- The track under the arm.

-- tracks are numbered from 0 on, cylinder by cylinder and head by head
abbrev pub track_number : IdleDrive → ℕ
track_number d = track_at d.volume.geometry d.cylinder d.head

-- the slots of its volume
abbrev pub slots_of : IdleDrive → List (List ℕ)
slots_of d = d.volume.slots

-- the number of the track under the arm
abbrev pub number_under : State → ℕ
number_under s = track_at s.volume.geometry s.registers.cylinder s.registers.head

-- the slot of the track under the arm
abbrev pub slot_under : State → List ℕ
slot_under s = slice_index_or s.volume.slots (number_under s) []

-- the track under the arm, as its slot spells it
abbrev pub track_under : State → Sighted
track_under s = track_of (slot_under s)

-- Changes of the state.

-- the state with these registers
abbrev pub with_registers : State → Registers → State
with_registers s r = record s { registers = r }

-- the state with this slot under the arm
abbrev pub with_slot : State → List ℕ → State
with_slot s slot = record s { volume = record s.volume { slots = slice_set s.volume.slots (number_under s) slot } }

-- a command that wrote leaves the changed track's spelling, and zeros behind it
abbrev pub with_written : State → Option Track → State
with_written s None = s
with_written s (Some t) = record (with_slot s (slot_of s.volume.geometry.track_size t)) { mark = Written }

-- the state with the arm or the head at another track, of which nothing is written
abbrev pub moved : State → Registers → State
moved s r = record s { registers = r; mark = Saved }

-- whether the track under the arm was written, and not saved since
abbrev pub is_written_by : Mark → Bool
is_written_by Written = true
is_written_by _ = false

-- whether the track under the arm of this state was written, and not saved since
abbrev pub is_written : State → Bool
is_written s = is_written_by s.mark

-- Faults of the store.

-- a load fails; or a save fails, which leaves these bytes in the slot
pub data Fault : Type 0 where
  LoadFails : Fault
  SaveFails : (left : List ℕ) → Fault

-- what is left in the slot where a track that was written can't be saved
abbrev pub left_by : Option Fault → Mark → Option (List ℕ)
left_by (Some (SaveFails left)) Written = Some left
left_by _ _ = None

-- the sense with the cause of a failed call of the store
abbrev pub with_store_fault : State → State
with_store_fault s = with_registers s (with_cause s.registers STORE_FAULT)

-- the state without its credit
abbrev pub without_credit : State → State
without_credit s = with_registers s (record s.registers { credit = None })

-- the track is lost, whatever its slot then spells; a credit for it is none, and the slot keeps its length
abbrev pub lost : State → List ℕ → State
lost s left = record (with_store_fault (without_credit (with_slot s (overwritten (slot_under s) 0 left)))) {
  mark = Lost;
}

-- a written track is saved: one thing follows where that fails, and else another
abbrev pub saving : {A : Type 0} → Option (List ℕ) → State → (fails : State → A) → (goes : A) → A
saving (Some left) s fails goes = fails (lost s left)
saving None s fails goes = goes

-- a written track is saved before the arm or the head leaves it
abbrev pub moving_off : {A : Type 0} → Option Fault → State → (fails : State → A) → (goes : A) → A
moving_off f s fails goes = saving (left_by f s.mark) s fails goes

-- Begin.

-- a command that works
pub record Open : Type 0 where
  pub opened : Opened
  pub state : State

-- the state of the drive on which a command works
abbrev pub state_of : Open → State
state_of o = o.state

-- what a command code comes to: the drive rejects it; it is over at once, with or without the arm in motion; or it works
pub data AfterBegin : Type 0 where
  Rejected : State → AfterBegin
  Immediate : State → (motion : Bool) → AfterBegin
  Started : Open → AfterBegin

-- the arm at cylinder 0, head 0: a command that has no more to do is over while the arm moves; another works
abbrev pub at_cylinder_zero : State → Registers → Option Opened → AfterBegin
at_cylinder_zero s r None = Immediate (moved s (moved_to r 0 0)) true
at_cylinder_zero s r (Some o) = Started (record { opened = o; state = moved s (moved_to r 0 0) })

-- a begin at the drive: a track that was written is saved before the arm goes to cylinder 0, and the command is
-- rejected where that fails
abbrev pub begun : Option Fault → State → Beginning → AfterBegin
begun f s (answer.Rejected r) = Rejected (with_registers s r)
begun f s (answer.Immediate r) = Immediate (with_registers s r) false
begun f s (answer.Started r o) = Started (record { opened = o; state = with_registers s r })
begun f s (answer.ToCylinderZero r o) = moving_off f (with_registers s r) Rejected (at_cylinder_zero s r o)

-- what a command code comes to at this drive
abbrev pub begin : Option Fault → (code : ℕ) → State → AfterBegin
begin f code s = begun f s (beginning code s.registers)

-- One look at the track under the arm.

-- what a look comes to: bytes may pass; the index passed; or the command is over, with unit check
pub data AfterLook : Type 0 where
  Ready : Open → AfterLook
  Passed : Open → AfterLook
  Failed : State → AfterLook

-- a look at the drive: a track that was written is saved before the next head follows, and the command is over where
-- that fails
abbrev pub looked : Option Fault → Open → Sight → AfterLook
looked f o (answer.Found opened) = Ready (record o { opened = opened })
looked f o (answer.IndexPassed r) = Passed (record o { state = with_registers o.state r })
looked f o (answer.NextHead r) = moving_off f o.state Failed (Passed (record o { state = moved o.state r }))
looked f o (answer.Missed r) = Failed (with_registers o.state r)

-- a load that fails ends the command, where it looks for an area
abbrev pub look_for : Option Fault → Open → Aim → Sight → AfterLook
look_for (Some LoadFails) o (Next kind) s = Failed (with_store_fault o.state)
look_for f o _ s = looked f o s

-- one look of a command at the track under the arm
abbrev pub look : Option Fault → Open → AfterLook
look f o = look_for f o (aim o.opened.command)
    (sight o.state.volume.geometry (track_under o.state) o.opened o.state.registers)

-- The bytes that pass.

-- whether the drive gives the bytes; else it takes them
abbrev pub gives : Open → Bool
gives o = is_giving (action_of o.opened.command)

-- the bytes that it gives
abbrev pub given : Open → List ℕ
given o = area_bytes (track_under o.state) o.opened o.state.registers

-- whether it is a write
abbrev pub is_write_command : Open → Bool
is_write_command o = is_write o.opened.command

-- how many bytes it has or wants in all, once these have passed
abbrev pub length_of : Open → List ℕ → ℕ
length_of o b = length_after o.state.volume.geometry (track_under o.state) o.opened o.state.registers b

-- Close.

-- a command that is over: the drive, the unit status, and whether the arm still moves
pub record Closed : Type 0 where
  pub state : State
  pub unit : UnitStatus
  pub motion : Bool

-- a command that ended with unit check
abbrev pub failed : State → Closed
failed s = record { state = s; unit = record { 0 = unit_check_status }; motion = false }

-- the command is over, and the arm or the head at another track
abbrev pub closed_moving : State → Closing → Closed
closed_moving s c = record { state = moved s c.registers; unit = record { 0 = c.unit }; motion = c.motion }

-- the command is over at the same track, which is written where the command has written it
abbrev pub closed_staying : State → Closing → Closed
closed_staying s c = record {
  state = with_registers (with_written s c.written) c.registers;
  unit = record { 0 = c.unit };
  motion = c.motion;
}

-- a track that was written is saved before the arm or the head leaves it; where that fails the command ends with unit
-- check
abbrev pub closed : Option Fault → State → Closing → (moves_off : Bool) → Closed
closed f s c true = moving_off f s failed (closed_moving s c)
closed f s c false = closed_staying s c

-- the end of a command at the drive, by how it closes
abbrev pub closed_by : Option Fault → State → Closing → Closed
closed_by f s c = closed f s c c.moves_off

-- the command where exactly the bytes b have passed in all
abbrev pub close : Option Fault → Open → List ℕ → Closed
close f o b = closed_by f o.state (closing o.state.volume.geometry (track_under o.state) o.opened o.state.registers b)

-- Settle.

-- a program's ending where a written track can't be saved gains unit check
abbrev pub with_unit_check : UnitStatus → UnitStatus
with_unit_check unit = record { 0 = bit_or unit.0 UNIT_CHECK.0 }

-- the end of a program: a track that was written is saved; where that fails it is lost, and unit check is added
abbrev pub settled : Option Fault → Closed → Closed
settled f c = saving (left_by f c.state.mark) c.state (λ s. record c { state = s; unit = with_unit_check c.unit }) c

-- the cylinder and head of a track that was not saved
abbrev pub unsaved_by : Mark → Registers → Option (ℕ × ℕ)
unsaved_by Lost r = Some (r.cylinder, r.head)
unsaved_by _ r = None

-- the cylinder and head of the track that could not be saved, if there is one
abbrev pub unsaved : State → Option (ℕ × ℕ)
unsaved s = unsaved_by s.mark s.registers

-- A new drive.

-- a drive that is new at this volume: cylinder 0, head 0, no sense
abbrev pub first_drive : Volume → IdleDrive
first_drive v = record { volume = v; cylinder = 0; head = 0; sense = ZERO }

-- the registers of a new drive
abbrev pub first_registers : Registers
first_registers = record {
  cylinder = 0;
  head = 0;
  sense = ZERO;
  position = AtIndex;
  file_mask = mask_of_byte 0x00;
  mask_set = false;
  credit = None;
  lap = First;
}
