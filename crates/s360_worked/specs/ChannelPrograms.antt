-- Channel programs, as they stand in a storage of 4,096 bytes from address 400 (hexadecimal) on.
use Rattle.std.specs.Prelude.{ℕ, List, [], ◌∷◌, ◌++◌, replicate}
use Rattle.byteorder.specs.Endian.{big_bytes}
use Rattle.s360_words.specs.Storage.{Storage, cleared, stored}
use Rattle.ckd_command.specs.Drive.{IdleDrive}
use Rattle.s360_laws.specs.Runs.{Start}

-- a channel command word: its code, data address, flags and count
abbrev pub ccw : (code address flags count : ℕ) → List ℕ
ccw code address flags count = code ∷ big_bytes 3 address ++ flags ∷ 0 ∷ big_bytes 2 count

-- a channel program in storage that is else zero, all keys being zero too
abbrev pub program : (words : List ℕ) → Storage
program words = stored (cleared 4096) 0x400 words

-- its start: the channel address word has key 0
abbrev pub start : IdleDrive → Storage → Start
start drive storage = record { caw = 0x400; storage = storage; drive = drive }

-- the same with key 1
abbrev pub start_with_key_1 : IdleDrive → Storage → Start
start_with_key_1 drive storage = record (start drive storage) { caw = 0x1000_0400 }

-- Reads and searches.

-- Seek to cylinder 0, head 0; Search ID Equal for a record there, again until it is found; Read Data
abbrev pub search_and_read : (number : ℕ) → Storage
search_and_read number =
    stored (program (ccw 0x07 0x500 0x40 6 ++ ccw 0x31 0x502 0x40 5 ++ ccw 0x08 0x408 0 0 ++ ccw 0x06 0x600 0 80))
    0x500 (0 ∷ 0 ∷ 0 ∷ 0 ∷ 0 ∷ 0 ∷ number ∷ [])

-- Read Data
abbrev pub read : (address flags count : ℕ) → Storage
read address flags count = program (ccw 0x06 address flags count)

-- Read Data to an address four bytes before the end of a storage of 65,536 bytes
abbrev pub read_at_end : Storage
read_at_end = stored (cleared 65536) 0x400 (ccw 0x06 0xFFFC 0 80)

-- Seek to head 1, Read Data with these flags, No-Operation
abbrev pub read_without_data : (flags : ℕ) → Storage
read_without_data flags =
    stored (program (ccw 0x07 0x500 0x40 6 ++ ccw 0x06 0x600 flags 1 ++ ccw 0x03 0 0 1)) 0x500 (0 ∷ 0 ∷ 0 ∷ 0 ∷ 0 ∷ 1 ∷ [])

-- Seek to head 8, Search Key Equal with the multi-track bit, again until the key is found
abbrev pub search_key_from_head_8 : Storage
search_key_from_head_8 =
    stored (program (ccw 0x07 0x500 0x40 6 ++ ccw 0xA9 0x506 0x40 4 ++ ccw 0x08 0x408 0 0)) 0x500 (0 ∷ 0 ∷ 0 ∷ 0 ∷ 0 ∷ 8 ∷ [])

-- Seek to cylinder 2, No-Operation
abbrev pub seek_cylinder_2 : Storage
seek_cylinder_2 = stored (program (ccw 0x07 0x500 0x40 6 ++ ccw 0x03 0 0 1)) 0x500 (0 ∷ 0 ∷ 0 ∷ 2 ∷ 0 ∷ 0 ∷ [])

-- Writes.

-- Search ID Equal for a record of cylinder 0, head 0, again until it is found; then these words
abbrev pub search_and : (number : ℕ) → (words : List ℕ) → Storage
search_and number words =
    stored (program (ccw 0x31 0x500 0x40 5 ++ ccw 0x08 0x400 0 0 ++ words)) 0x500 (0 ∷ 0 ∷ 0 ∷ 0 ∷ number ∷ [])

-- Write Count, Key and Data behind R0: a record 1 of 20 bytes
abbrev pub format_record_1 : Storage
format_record_1 =
    stored (search_and 0 (ccw 0x1D 0x600 0 28)) 0x600 (0 ∷ 0 ∷ 0 ∷ 0 ∷ 1 ∷ 0 ∷ 0 ∷ 20 ∷ replicate 20 0xD5)

-- Write Data into record 1
abbrev pub update_record_1 : Storage
update_record_1 = stored (search_and 1 (ccw 0x05 0x600 0 80)) 0x600 (replicate 80 0xD7)

-- Write Data into record 1, Seek to head 1
abbrev pub update_and_seek : Storage
update_and_seek =
    stored (stored (search_and 1 (ccw 0x05 0x600 0x40 80 ++ ccw 0x07 0x510 0 6)) 0x510 (0 ∷ 0 ∷ 0 ∷ 0 ∷ 0 ∷ 1 ∷ []))
    0x600 (replicate 80 0xD7)

-- Write Data with nothing before it
abbrev pub write_at_once : Storage
write_at_once = program (ccw 0x05 0x600 0 80)

-- Set File Mask to a mask that inhibits every write, Write Data
abbrev pub write_under_mask : Storage
write_under_mask = stored (program (ccw 0x1F 0x500 0x40 1 ++ ccw 0x05 0x600 0 80)) 0x500 (0x40 ∷ [])

-- Set File Mask to a mask that permits every write, Write Home Address
abbrev pub write_home_address : List ℕ
write_home_address = ccw 0x1F 0x500 0x40 1 ++ ccw 0x19 0x501 0 5

-- Chaining.

-- Transfer in channel with nothing before it
abbrev pub transfer_first : Storage
transfer_first = program (ccw 0x08 0x408 0 0)

-- No-Operation, and a transfer in channel that leads to another one
abbrev pub transfer_to_transfer : Storage
transfer_to_transfer = program (ccw 0x03 0 0x40 1 ++ ccw 0x08 0x410 0 0 ++ ccw 0x08 0x400 0 0)

-- Seek to a head; Read Data of the next channel command word, which is chained by these flags
abbrev pub read_next_word : (head flags : ℕ) → Storage
read_next_word head flags =
    stored (program (ccw 0x07 0x500 0x40 6 ++ ccw 0x06 0x410 flags 8)) 0x500 (0 ∷ 0 ∷ 0 ∷ 0 ∷ 0 ∷ head ∷ [])

-- Read Data into two areas
abbrev pub read_into_two : (flags count : ℕ) → (second_flags second_count : ℕ) → Storage
read_into_two flags count second_flags second_count =
    program (ccw 0x06 0x600 flags count ++ ccw 0x00 0x700 second_flags second_count)

-- Of other kinds.

-- two programs: Seek to cylinder 0, head 0; and at 408 a Sense
abbrev pub seek_and_sense : Storage
seek_and_sense = program (ccw 0x07 0x500 0 6 ++ ccw 0x04 0x600 0 6)

-- Seek to cylinder 0, head 0; No-Operation
abbrev pub seek_and_no_operation : Storage
seek_and_no_operation = program (ccw 0x07 0x500 0x40 6 ++ ccw 0x03 0 0 1)

-- Recalibrate
abbrev pub recalibrate : Storage
recalibrate = program (ccw 0x13 0 0 1)

-- No-Operation, with the flag for program-controlled interruption
abbrev pub interrupting_no_operation : Storage
interrupting_no_operation = program (ccw 0x03 0 0x08 1)
