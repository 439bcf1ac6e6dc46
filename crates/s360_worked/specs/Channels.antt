-- Channel 1 with its drives, lists of events, and what is seen of the channel after them.
use Rattle.std.specs.Prelude.{ℕ, List, [], ◌∷◌, ◌++◌, map, Some, None, Result, replicate, slice_range}
use Rattle.ckd_track.specs.Track.{Track, slot_of}
use Rattle.ckd_track.specs.declared.fault.SlotFault.{SlotFault}
use Rattle.ckd_sense.specs.SenseBytes.{sense_bytes}
use Rattle.ckd_command.specs.Drive.{IdleDrive, Fault, LoadFails, SaveFails}
use Rattle.s360_words.specs.Storage.{Storage, stored}
use Rattle.s360_laws.specs.Events.{Event, Sio, Tio, Hio, Tch, StepBy, Arrive, Interrupt, Store, SetKey, Input}
use Rattle.s360_laws.specs.History.{World, world_of, history, all_acts}
use Rattle.s360_laws.specs.Machine.{Device, Idle, Machine, after_all, exchanges, plain}
use Rattle.s360_laws.specs.SerialLists.{serial_list}
use Rattle.s360_laws.specs.declared.arm.Arm.TheVariants.{AtRest}
use Rattle.s360_worked.specs.ChannelPrograms.{ccw, write_home_address}
use Rattle.s360_worked.specs.Seen.{track_under_arm}
use Rattle.s360_worked.specs.Volumes.{first_track, track_size}

-- Channels.

-- a drive at rest, with this address
abbrev pub device_with : (device : ℕ) → IdleDrive → Device
device_with device drive = record { device = device; arm = AtRest; drive = drive }

-- the channel address word at 72 has this key, and the address 400
abbrev pub with_caw : (key : ℕ) → Storage → Storage
with_caw key storage = stored storage 72 (key ∷ 0x00 ∷ 0x04 ∷ 0x00 ∷ [])

-- the channel with drives at 90 and, it may be, at 91
abbrev pub channel_with : Storage → List Device → Machine
channel_with storage devices =
    record { channel = 1; storage = with_caw 0x00 storage; subchannel = Idle; devices = devices }

-- the channel with one drive, at 90
abbrev pub channel : Storage → IdleDrive → Machine
channel storage drive = channel_with storage (device_with 0x90 drive ∷ [])

-- and with key 1 in the channel address word
abbrev pub channel_with_key_1 : Storage → IdleDrive → Machine
channel_with_key_1 storage drive = record (channel storage drive) { storage = with_caw 0x10 storage }

-- What is seen.

-- the CSW in storage; and of each drive cylinder, head, sense bytes and the track under the arm
pub record Glance : Type 0 where
  pub csw : List ℕ
  pub drives : List (ℕ × ℕ × List ℕ × Result Track SlotFault)

-- what is looked at of a drive
abbrev pub glance_at : IdleDrive → ℕ × ℕ × List ℕ × Result Track SlotFault
glance_at drive = (drive.cylinder, drive.head, sense_bytes drive.sense, track_under_arm drive)

-- what is looked at of storage and all drives
abbrev pub glance : World → Glance
glance w = record { csw = slice_range w.storage.bytes 64 72; drives = map (λ d. glance_at d.1) w.drives }

-- the channel after events, and the same by its programs, one whole run after another
abbrev pub glance_after : List Input → Machine → Glance
glance_after events m = glance (world_of (after_all events m))

-- what is looked at behind the accepted programs, run one after another
abbrev pub glance_after_programs : List Input → Machine → Glance
glance_after_programs events m = glance (history (world_of m) (all_acts m (exchanges events m)))

-- a glance of these parts
abbrev pub glanced : (csw : List ℕ) → (drives : List (ℕ × ℕ × List ℕ × Result Track SlotFault)) → Glance
glanced csw drives = record { csw = csw; drives = drives }

-- Events.

-- an event that meets a fault of the store, in the unit behind so many others
abbrev pub failing : Event → (units : ℕ) → Fault → Input
failing event units fault = (event, Some (record { units = units; fault = fault }))

-- a save of the first track that fails, and leaves this in record 1
abbrev pub save_leaves : (contents : List ℕ) → Fault
save_leaves contents = SaveFails (slot_of track_size (first_track contents))

-- Two drives.

-- a seek at 90; while its arm moves, a Sense at 91 in two steps, between which the arm of 90 arrives
abbrev pub second_program : List Event
second_program =
    Sio 0x191 ∷ StepBy 3 ∷ Sio 0x190 ∷ Arrive 0x190 ∷ StepBy 100 ∷ Interrupt ∷ Interrupt ∷ Interrupt ∷ []

-- a seek, its two ends, and the address word of the program behind it
abbrev pub first_program : List Event
first_program = Sio 0x190 ∷ StepBy 100 ∷ Interrupt ∷ Tio 0x190 ∷ Store 72 (0x00 ∷ 0x00 ∷ 0x04 ∷ 0x08 ∷ []) ∷ []

-- both, in one list
abbrev pub two_programs : List Input
two_programs = plain (first_program ++ second_program)

-- the serial list of the second program's events
abbrev pub serial_events : Machine → List Event
serial_events m = map (λ t. t.0) (serial_list (exchanges (plain second_program) (after_all (plain first_program) m)))

-- One drive.

-- a program to its end; and so many steps of it, and then another event
abbrev pub whole_program : List Input
whole_program = plain (Sio 0x190 ∷ StepBy 65535 ∷ Interrupt ∷ [])

-- a program's first units, and then an event
abbrev pub steps_and : (units : ℕ) → Event → List Input
steps_and units event = plain (Sio 0x190 ∷ StepBy units ∷ event ∷ Interrupt ∷ [])

-- every other event while an ended program's CSW pends
abbrev pub while_pending : List Input
while_pending =
    plain (Sio 0x190 ∷ StepBy 65535 ∷ Tch ∷ Hio 0x190 ∷ Sio 0x191 ∷ Sio 0x190 ∷ Tio 0x190 ∷ Tio 0x190 ∷ [])

-- starts while an arm moves, when it has arrived, and behind its device end
abbrev pub starts_in_motion : List Input
starts_in_motion = plain (Sio 0x190 ∷ Sio 0x190 ∷ Arrive 0x190 ∷ Sio 0x190 ∷ Sio 0x190 ∷ [])

-- Faults of the store.

-- the first load of a program fails
abbrev pub first_load_fails : List Input
first_load_fails = (Sio 0x190, None) ∷ failing (StepBy 65535) 0 LoadFails ∷ (Interrupt, None) ∷ []

-- what is left of record 1 where 30 bytes were written and the save stopped within it
abbrev pub half_saved : List ℕ
half_saved = replicate 30 0xD7 ++ 0x00 ∷ replicate 49 0xC1

-- 45 steps, and a cut whose save fails
abbrev pub cut_fails : Event → List Input
cut_fails event = (Sio 0x190, None) ∷ (StepBy 45, None) ∷ failing event 0 (save_leaves half_saved) ∷ (Interrupt, None) ∷ []

-- then a Write Home Address over the track that was not saved
abbrev pub write_home_address_after : List Input
write_home_address_after =
    plain (Store 0x400 write_home_address ∷ Store 0x500 (0xC0 ∷ 0 ∷ 0 ∷ 0 ∷ 0 ∷ 0 ∷ []) ∷ Sio 0x190 ∷ StepBy 65535 ∷ Interrupt ∷ [])

-- the data of a record of which 31 bytes are new
abbrev pub partly_saved : List ℕ
partly_saved = replicate 31 0xD7 ++ replicate 49 0xC1

-- the save before a seek moves off the track fails
abbrev pub save_before_seek_fails : List Input
save_before_seek_fails =
    (Sio 0x190, None) ∷ failing (StepBy 65535) 103 (save_leaves partly_saved) ∷ (Interrupt, None) ∷ (Tio 0x190, None) ∷ []

-- Program-controlled interruption, and changes of storage while a program runs.

-- a program-controlled interruption is taken before the program ends
abbrev pub interruption_taken : List Input
interruption_taken = plain (Sio 0x190 ∷ Interrupt ∷ StepBy 65535 ∷ Interrupt ∷ [])

-- no interruption is asked for before the program has ended
abbrev pub interruption_left : List Input
interruption_left = plain (Sio 0x190 ∷ StepBy 65535 ∷ Interrupt ∷ Interrupt ∷ [])

-- the word at 408 becomes a Sense before it is fetched
abbrev pub word_changed : List Input
word_changed =
    plain (Sio 0x190 ∷ StepBy 6 ∷ Store 0x408 (ccw 0x04 0x600 0 6) ∷ StepBy 65535 ∷ Interrupt ∷ [])

-- the block of the data area has key 1, and then, with ten bytes in it, key 0
abbrev pub key_changed : List Input
key_changed =
    plain (SetKey 0x600 1 ∷ Sio 0x190 ∷ StepBy 10 ∷ SetKey 0x600 0 ∷ StepBy 65535 ∷ Interrupt ∷ [])
