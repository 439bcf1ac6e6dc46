-- A drive with two short tracks, and channel programs over it that show one rule each.
use Rattle.std.specs.Prelude.{ℕ, List, [], ◌∷◌, ◌++◌, replicate, Option, Some, None, Result}
use Rattle.ckd_track.specs.declared.fault.SlotFault.{SlotFault}
use Rattle.s360_laws.specs.Endings.{Outcome, Ended, NotEnded}
use Rattle.s360_worked.specs.Seen.{track_under_arm}
use Rattle.ckd_track.specs.Track.{Track, slot_of}
use Rattle.ckd_track.specs.declared.model.DriveModel.TheVariants.{D2311}
use Rattle.ckd_command.specs.Drive.{Fault, IdleDrive, SaveFails, no_sense}
use Rattle.s360_words.specs.Storage.{Storage, cleared, stored, with_key}
use Rattle.s360_laws.specs.Runs.{Start}
use Rattle.s360_laws.specs.Events.{Input, Sio, Tio, Hio, Tch, StepBy, Arrive, Interrupt, Reset, Show}
use Rattle.s360_laws.specs.Machine.{plain}
use Rattle.s360_worked.specs.ChannelPrograms.{ccw, program}
use Rattle.s360_worked.specs.Volumes.{record_of, track_with}

-- the slot of each track has 72 bytes
abbrev pub small_size : ℕ
small_size = 72

-- a track with two records of four bytes
abbrev pub small_track : (first : List ℕ) → Track
small_track first = track_with 0 0 (record_of 0 0 1 first ∷ record_of 0 0 2 (replicate 4 0xC2) ∷ [])

-- two slots, the first with this track
abbrev pub small_slots : (first : List ℕ) → List (List ℕ)
small_slots first = slot_of small_size (small_track first) ∷ slot_of small_size (track_with 0 1 []) ∷ []

-- a drive at that track
abbrev pub small_drive : IdleDrive
small_drive = record {
  volume = record { geometry = record { model = D2311; cylinders = 1; track_size = small_size }; slots = small_slots (replicate 4 0xC1) };
  cylinder = 0;
  head = 0;
  sense = no_sense;
}

-- Programs.

-- a program at another address than 400
abbrev pub start_at : (address : ℕ) → IdleDrive → Storage → Start
start_at address drive storage = record { caw = address; storage = storage; drive = drive }

-- No-Operation, and a transfer in channel to a word at 414, which is no multiple of 8
abbrev pub transfer_to_414 : Storage
transfer_to_414 = program (ccw 0x03 0 0x40 1 ++ ccw 0x08 0x414 0 0 ++ 0 ∷ 0 ∷ 0 ∷ 0 ∷ ccw 0x03 0 0 1)

-- No-Operation in the last eight bytes of storage, and the next word behind them
abbrev pub at_end_of_storage : Storage
at_end_of_storage = stored (cleared 4096) 0xFF8 (ccw 0x03 0 0x40 1)

-- No-Operation, and one with a count of zero
abbrev pub second_without_count : Storage
second_without_count = program (ccw 0x03 0 0x40 1 ++ ccw 0x03 0 0 0)

-- Read Data into an area of two bytes; a transfer in channel; and an area of two bytes
abbrev pub transfer_in_data : Storage
transfer_in_data = program (ccw 0x06 0x600 0x80 2 ++ ccw 0x08 0x418 0 0 ++ replicate 8 0 ++ ccw 0x00 0x700 0x00 2)

-- Search ID Equal for record 1, again until it is found; a transfer in channel to the words at 418
abbrev pub search_and_go : (words : List ℕ) → Storage
search_and_go words =
    stored (program (ccw 0x31 0x500 0x40 5 ++ ccw 0x08 0x400 0 0 ++ ccw 0x08 0x418 0 0 ++ words)) 0x500 (0 ∷ 0 ∷ 0 ∷ 0 ∷ 1 ∷ [])

-- then Write Data, with these flags, of four bytes from 600 on; and of bytes of which two are in storage
abbrev pub write_small : (flags : ℕ) → Storage
write_small flags = stored (search_and_go (ccw 0x05 0x600 flags 4)) 0x600 (replicate 4 0xD7)

-- the last two bytes of storage, and a word that wants four
abbrev pub write_past_storage : Storage
write_past_storage = stored (search_and_go (ccw 0x05 0xFFE 0 4)) 0xFFE (0xD7 ∷ 0xD7 ∷ [])

-- from a block with another key than the channel's
abbrev pub write_from_other_block : Storage
write_from_other_block = with_key (write_small 0) 0x600 2

-- Read Data of two bytes with these flags, and No-Operation
abbrev pub short_read : (flags : ℕ) → Storage
short_read flags = program (ccw 0x06 0x600 flags 2 ++ ccw 0x03 0 0 1)

-- No-Operation with the flag for program-controlled interruption, and another one
abbrev pub interruption_before_fetch : Storage
interruption_before_fetch = program (ccw 0x03 0 0x48 1 ++ ccw 0x03 0 0 1)

-- Read Data into an area of two bytes with that flag, and one of two without
abbrev pub interruption_in_data : Storage
interruption_in_data = program (ccw 0x06 0x600 0x88 2 ++ ccw 0x00 0x700 0x00 2)

-- a Seek address with high bytes: cylinder 256; bin 1; head 256
abbrev pub seek_to : (address : List ℕ) → Storage
seek_to address = stored (program (ccw 0x07 0x500 0 6)) 0x500 address

-- No-Operation, and a transfer in channel to the highest address at which a word could stand
abbrev pub transfer_to_last_word : Storage
transfer_to_last_word = program (ccw 0x03 0 0x40 1 ++ ccw 0x08 0xFFFFF8 0 0)

-- No-Operation, and a transfer in channel by another code, with the flags that must be zero elsewhere, and a count
abbrev pub transfer_by_another_code : Storage
transfer_by_another_code = program (ccw 0x03 0 0x40 1 ++ ccw 0xF8 0x418 0x07 5 ++ replicate 8 0 ++ ccw 0x03 0 0 1)

-- Read Data of two bytes, chained to an area whose word has a flag that must be zero
abbrev pub bad_flag_in_data : Storage
bad_flag_in_data = program (ccw 0x06 0x600 0x80 2 ++ ccw 0x00 0x700 0x01 2)

-- Read Data of a record of four bytes, of which the first two go into a block with key 1, and the others into one with key 0
abbrev pub read_over_two_blocks : Storage
read_over_two_blocks = with_key (program (ccw 0x06 0x7FE 0 4)) 0 1

-- Seek, with these flags and this count, to cylinder 0 and head 1, and to a cylinder that is not there
abbrev pub seek_with : (flags count : ℕ) → (cylinder : ℕ) → Storage
seek_with flags count cylinder = stored (program (ccw 0x07 0x500 flags count)) 0x500 (0 ∷ 0 ∷ 0 ∷ cylinder ∷ 0 ∷ 1 ∷ [])

-- No-Operation, and another one with a count of nine
abbrev pub two_no_operations : Storage
two_no_operations = program (ccw 0x03 0 0x40 1 ++ ccw 0x03 0 0 9)

-- Search ID Equal for R0
abbrev pub search_for_r0 : (address : ℕ) → Storage
search_for_r0 address = program (ccw 0x31 address 0 5)

-- Set File Mask to a mask that permits every write, and Write Home Address from behind storage
abbrev pub home_address_past_storage : Storage
home_address_past_storage = stored (program (ccw 0x1F 0x500 0x40 1 ++ ccw 0x19 0x1000 0 5)) 0x500 (0xC0 ∷ [])

-- Write Data of three bytes into record 1
abbrev pub short_write : Storage
short_write = stored (search_and_go (ccw 0x05 0x600 0 3)) 0x600 (replicate 3 0xD7)

-- Write Data into record 1, and Read Home Address with the multiple-track bit
abbrev pub write_and_next_head : Storage
write_and_next_head = stored (search_and_go (ccw 0x05 0x600 0x40 4 ++ ccw 0x9A 0x700 0 5)) 0x600 (replicate 4 0xD7)

-- Lists of events.

-- so many steps of a program, the last of which meets a fault
abbrev pub steps_failing : (before : ℕ) → Fault → List Input
steps_failing before fault =
    (Sio 0x190, None) ∷ (StepBy 30, Some (record { units = before; fault = fault })) ∷ (Interrupt, None) ∷ []

-- a save that leaves this in record 1 of the track at head 0
abbrev pub small_save_leaves : (first : List ℕ) → Fault
small_save_leaves first = SaveFails (slot_of small_size (small_track first))

-- Halt I/O to an arm in motion, and to one that has arrived
abbrev pub halted_in_motion : List Input
halted_in_motion = plain (Sio 0x190 ∷ Hio 0x190 ∷ Arrive 0x190 ∷ Hio 0x190 ∷ Interrupt ∷ [])

-- what is asked of another device while an ending pends
abbrev pub asked_pending : List Input
asked_pending = plain (Sio 0x190 ∷ StepBy 9 ∷ Tio 0x191 ∷ Hio 0x191 ∷ Sio 0x191 ∷ Tch ∷ Tio 0x190 ∷ Tch ∷ [])

-- what Start I/O and Halt I/O store of the channel status word
abbrev pub parts_stored : List Input
parts_stored = plain (Sio 0x190 ∷ Show 64 8 ∷ Hio 0x190 ∷ Show 64 8 ∷ [])

-- a reset while an arm moves, and while an ending pends
abbrev pub reset_in_motion : List Input
reset_in_motion = plain (Sio 0x190 ∷ Reset ∷ Arrive 0x190 ∷ Interrupt ∷ Sio 0x190 ∷ [])

-- a reset while the channel status word pends
abbrev pub reset_while_pending : List Input
reset_while_pending = plain (Sio 0x190 ∷ StepBy 9 ∷ Reset ∷ Interrupt ∷ Tch ∷ [])

-- what is asked of an idle channel
abbrev pub asked_idle : List Input
asked_idle = plain (Sio 0x191 ∷ Sio 0x290 ∷ Tio 0x191 ∷ Tio 0x290 ∷ Hio 0x191 ∷ Hio 0x290 ∷ Tio 0x190 ∷ Tch ∷ Hio 0x190 ∷ StepBy 5 ∷ Interrupt ∷ [])

-- what is asked while a program runs, and a Halt I/O to another device
abbrev pub asked_running : List Input
asked_running = plain (Sio 0x190 ∷ StepBy 2 ∷ Show 0x600 3 ∷ Sio 0x190 ∷ Sio 0x290 ∷ Tio 0x190 ∷ Tio 0x191 ∷ Tch ∷ Hio 0x191 ∷ Tch ∷ Tio 0x190 ∷ [])

-- two arms in motion arrive, the higher first
abbrev pub two_arrivals : List Input
two_arrivals = plain (Sio 0x190 ∷ Sio 0x191 ∷ Arrive 0x191 ∷ Arrive 0x191 ∷ Arrive 0x290 ∷ Arrive 0x190 ∷ Interrupt ∷ Tio 0x191 ∷ Interrupt ∷ [])

-- two programs one after another, and a reset behind them
abbrev pub two_runs : List Input
two_runs = plain (Sio 0x190 ∷ StepBy 9 ∷ Interrupt ∷ Sio 0x190 ∷ StepBy 9 ∷ Tio 0x190 ∷ [])

-- a second start, behind the first program's interruption
abbrev pub second_acceptance : List Input
second_acceptance = plain (Sio 0x190 ∷ StepBy 9 ∷ Interrupt ∷ Sio 0x190 ∷ StepBy 2 ∷ [])

-- a reset behind a program, and what pends then
abbrev pub reset_run : List Input
reset_run = plain (Sio 0x190 ∷ StepBy 9 ∷ Reset ∷ Interrupt ∷ [])

-- a start whose command is over at once
abbrev pub immediate_run : List Input
immediate_run = plain (Sio 0x190 ∷ Interrupt ∷ [])

-- What is seen.

-- the track under the arm behind a program that ended
abbrev pub track_behind : Outcome → Option (Result Track SlotFault)
track_behind (Ended used s e) = Some (track_under_arm e.drive)
track_behind (NotEnded seen) = None
