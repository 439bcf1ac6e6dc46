-- Why a program ended with a check, in words (Principles of Operation, 'Program Check' and 'Incorrect Length'; component descriptions, 'Sense').
use Rattle.std.specs.Prelude.{ℕ, ◌/◌, ◌%◌, ◌==◌, Bool, if◌then◌else◌, List, [], ◌∷◌, ◌++◌, codes, find, bit_and}
use Rattle.std.specs.Prelude.{Option, Some, None}
use Rattle.std.specs.List.{concat}
use Rattle.std.specs.Fmt.{decimal}
use Rattle.counted_io.specs.Text.{bytes_text}
use Rattle.counted_io.specs.Quantities.{quantity_text}
use Rattle.s360_words.specs.Words.{is_transfer, has_reserved_flags}
use Rattle.s360_words.specs.declared.words.Ccw.{Ccw}
use Rattle.ckd_sense.specs.Commands.{decoded}
use Rattle.ckd_sense.specs.declared.sense_bytes.Sense.{Sense}
use Rattle.ckd_sense.specs.declared.sense_bytes.TheConstants.Sense as sense
use Rattle.ckd_sense.specs.declared.commands.CommandCode.{CommandCode}
use Rattle.ckd_sense.specs.declared.commands.Command.{Command}
use Rattle.ckd_sense.specs.declared.commands.Command.TheVariants as command
use Rattle.s360_explain.specs.Names.{cause_text}
use Rattle.trace_words.specs.Numbers.{storage_address, key_digit}
use Rattle.trace_words.specs.declared.reasons.CheckReason.{CheckReason}
use Rattle.trace_words.specs.declared.reasons.CheckReason.TheVariants as check
use Rattle.trace_words.specs.declared.reasons.SenseReason.{SenseReason}
use Rattle.trace_words.specs.declared.reasons.SenseReason.TheVariants as why
use Rattle.trace_words.specs.declared.reasons.NoPlace.{NoPlace}
use Rattle.trace_words.specs.declared.reasons.NoRoom.{NoRoom}
use Rattle.trace_words.specs.declared.reasons.Compared.{Compared}
use Rattle.trace_words.specs.declared.reasons.BareTrack.{BareTrack}
use Rattle.trace_words.specs.declared.reasons.BareTrack.TheVariants.{NoKey, NoRecord1, NoRecordBehindR0, NoRecord}

-- Checks of the channel.

-- what is wrong with a word that was not taken
abbrev pub ccw_fault_text : Ccw → List ℕ
ccw_fault_text ccw =
    if is_transfer ccw then codes "a Transfer In Channel may not come first, or right after another"
    else if ccw.count == 0 then codes "the count of the word is zero"
    else if has_reserved_flags ccw then codes "a reserved bit of the word is on"
    else codes "the code of the word is no command of a channel"

-- the same of what stands at an address, if a word can
abbrev pub stored_fault_text : Option Ccw → List ℕ
stored_fault_text None = codes "the word is outside storage"
stored_fault_text (Some ccw) = ccw_fault_text ccw

-- what is wrong at an address
abbrev pub word_fault_text : (at : ℕ) → Option Ccw → List ℕ
word_fault_text at word = if at % 8 == 0 then stored_fault_text word else codes "the word is not at a multiple of 8"

-- incorrect length, by the count that is left
abbrev pub length_text : (left : ℕ) → List ℕ
length_text left =
    if left == 0 then codes "the count is shorter than what the drive had or wanted"
    else codes "the count is longer than what the drive had or wanted"

-- a block with its key
abbrev pub block_key_text : (block key : ℕ) → List ℕ
block_key_text block key = (codes "the block of " ++ storage_address block) ++ (codes " has the key " ++ key_digit key)

-- the key of a program, beside that of a block
abbrev pub program_key_text : (program : ℕ) → List ℕ
program_key_text program = codes ", and the program " ++ key_digit program

-- an address outside storage
abbrev pub outside_text : (address size : ℕ) → List ℕ
outside_text address size = concat (
    codes "the address " ∷ storage_address address ∷ codes " is outside storage, which has " ∷ decimal size ∷ codes " bytes" ∷ [])

-- why the channel ended a program, or did not begin it
abbrev pub check_reason_text : CheckReason → List ℕ
check_reason_text check.AddressWord = codes "a bit of the channel address word that must be zero is on"
check_reason_text (check.Word at word) = word_fault_text at word
check_reason_text (check.Length left) = length_text left
check_reason_text check.Address = codes "an address under the word can't be used"
check_reason_text (check.Key block key program) = block_key_text block key ++ program_key_text program
check_reason_text (check.Outside address size) = outside_text address size

-- Unit checks.

-- the causes of a unit check: that of the store first, and then the more telling of two
abbrev pub told_causes : List Sense
told_causes =
    sense.STORE_FAULT
    ∷ sense.UNREADABLE_TRACK
    ∷ sense.RECORD_DOES_NOT_FIT
    ∷ sense.SEEK_ADDRESS_OUTSIDE
    ∷ sense.OUT_OF_SEQUENCE
    ∷ sense.WRITE_NOT_ALLOWED
    ∷ sense.INVALID_COMMAND
    ∷ sense.SEEK_NOT_ALLOWED
    ∷ sense.NO_RECORD_FOUND
    ∷ sense.END_OF_CYLINDER
    ∷ []

-- whether sense has all bits of a cause
abbrev pub has_cause : Sense → (cause : Sense) → Bool
has_cause s cause = bit_and s.0 cause.0 == cause.0

-- the cause that sense bytes are told for
abbrev pub cause_of : Sense → Option Sense
cause_of s = find (has_cause s) told_causes

-- what was wanted right before a command
abbrev pub sequence_text : Command → List ℕ
sequence_text command.SetFileMask = codes "a second Set File Mask in one program"
sequence_text command.WriteData =
    codes "no Search ID Equal or Search Key Equal that compared all bytes and was equal comes right before it"
sequence_text command.WriteKeyAndData = codes "no Search ID Equal that compared all bytes and was equal comes right before it"
sequence_text command.WriteR0 =
    codes "no Search HA Equal that compared all bytes and was equal, and no Write Home Address, comes right before it"
sequence_text _ =
    codes "no Search ID Equal or Search Key Equal that compared all bytes and was equal, and no write that made a record, "
    ++ codes "comes right before it"

-- what the file mask does not allow of a command
abbrev pub seek_text : Command → List ℕ
seek_text command.Seek = codes "the file mask does not allow this seek"
seek_text command.SeekCylinder = codes "the file mask does not allow this seek"
seek_text command.SeekHead = codes "the file mask does not allow this seek"
seek_text command.Recalibrate = codes "the file mask does not allow this seek"
seek_text command.ReadIpl = codes "the file mask does not allow this seek"
seek_text _ = codes "the file mask does not allow the next head"

-- what a cause is for a command
abbrev pub cause_reason_text : Command → (cause : Sense) → List ℕ
cause_reason_text c cause =
    if cause.0 == sense.OUT_OF_SEQUENCE.0 then sequence_text c
    else if cause.0 == sense.SEEK_NOT_ALLOWED.0 then seek_text c
    else cause_text cause.0

-- what a cause is for a command code, which the drive may not have
abbrev pub code_reason_text : Option CommandCode → (cause : Sense) → List ℕ
code_reason_text (Some code) cause = cause_reason_text code.command cause
code_reason_text None cause =
    if cause.0 == sense.INVALID_COMMAND.0 then codes "the drive has no such command" else cause_reason_text command.NoOperation cause

-- what the told cause is for a command code
abbrev pub told_cause_text : Option CommandCode → (cause : Option Sense) → List ℕ
told_cause_text code None = codes "see the sense bytes"
told_cause_text code (Some cause) = code_reason_text code cause

-- why a command ended in unit check, by its code and its sense
abbrev pub unit_check_text : (code : ℕ) → Sense → List ℕ
unit_check_text code s = told_cause_text (decoded code) (cause_of s)

-- By numbers.

-- what a track lacks on which a command that has seen all of it found no area
abbrev pub bare_track : Command → Option BareTrack
bare_track command.SearchKeyEqual = Some NoKey
bare_track command.SearchKeyHigh = Some NoKey
bare_track command.SearchKeyEqualOrHigh = Some NoKey
bare_track command.ReadIpl = Some NoRecord1
bare_track command.ReadCount = Some NoRecordBehindR0
bare_track command.ReadData = Some NoRecordBehindR0
bare_track command.ReadKeyAndData = Some NoRecordBehindR0
bare_track command.ReadCountKeyAndData = Some NoRecordBehindR0
bare_track command.SearchIdEqual = Some NoRecord
bare_track command.SearchIdHigh = Some NoRecord
bare_track command.SearchIdEqualOrHigh = Some NoRecord
bare_track command.ReadR0 = Some NoRecord
bare_track _ = None

-- the same in words
abbrev pub bare_track_text : BareTrack → List ℕ
bare_track_text NoKey = codes "no record after R0 has a key"
bare_track_text NoRecord1 = codes "the track has no record R1"
bare_track_text NoRecordBehindR0 = codes "the track has no record after R0"
bare_track_text NoRecord = codes "the track has no record"

-- how many bytes were compared, and of how many where that is known
abbrev pub compared_of_text : (count : ℕ) → (of : Option ℕ) → List ℕ
compared_of_text count None = quantity_text count (codes "byte") (codes "bytes")
compared_of_text count (Some all) = concat (decimal count ∷ codes " of " ∷ quantity_text all (codes "byte") (codes "bytes") ∷ [])

-- how many bytes a search compared
abbrev pub compared_text : Compared → List ℕ
compared_text c = compared_of_text c.count c.of

-- a place with its bin and its cylinder
abbrev pub cylinder_text : NoPlace → List ℕ
cylinder_text p = concat (
    codes "bin " ∷ decimal p.bin ∷ codes ", cylinder " ∷ decimal p.cylinder ∷ codes ", head " ∷ decimal p.head ∷ [])

-- the places that the volume has
abbrev pub cylinders_text : NoPlace → List ℕ
cylinders_text p = concat (
    codes ": the volume has bin 0, cylinders 0 to " ∷ decimal p.last_cylinder ∷ codes " and heads 0 to " ∷ decimal p.last_head ∷ [])

-- a head
unfoldable pub head_text : (head : ℕ) → List ℕ
head_text head = codes "head " ++ decimal head

-- the heads that the volume has
unfoldable pub last_head_text : (last : ℕ) → List ℕ
last_head_text last = codes ": the volume has heads 0 to " ++ decimal last

-- a place that the volume has not, and those that it has; of Seek Head the head alone
abbrev pub place_text : NoPlace → List ℕ
place_text p =
    if p.has_cylinder then cylinder_text p ++ cylinders_text p
    else head_text p.head ++ last_head_text p.last_head

-- a record that does not fit what is left of its track
abbrev pub room_text : NoRoom → List ℕ
room_text r = concat (
    codes "KL " ∷ decimal r.key ∷ codes " DL " ∷ decimal r.data ∷ codes " takes " ∷ decimal r.takes ∷ codes " of the track, of which "
    ∷ quantity_text r.left (codes "is left") (codes "are left") ∷ [])

-- an argument of which too few bytes came
abbrev pub argument_text : (came size : ℕ) → List ℕ
argument_text came size = concat (
    quantity_text came (codes "byte") (codes "bytes") ∷ codes " came of the " ∷ decimal size ∷ codes " of its argument" ∷ [])

-- the home address that a track must have: no flag, its cylinder and its head
abbrev pub home_address_text : (cylinder head : ℕ) → List ℕ
home_address_text cylinder head =
    codes "it must be the track's own home address: "
    ++ bytes_text (0 ∷ cylinder / 256 ∷ cylinder % 256 ∷ head / 256 ∷ head % 256 ∷ [])

-- why a command ended in unit check
abbrev pub sense_reason_text : SenseReason → List ℕ
sense_reason_text (why.Cause code s) = unit_check_text code s
sense_reason_text (why.NoPlace p) = place_text p
sense_reason_text (why.NoRoom r) = room_text r
sense_reason_text (why.TooFew c) = concat (
    codes "the search right before it compared " ∷ compared_text c ∷ codes ": a write wants all of them compared and equal" ∷ [])
sense_reason_text (why.Argument came size) = argument_text came size
sense_reason_text (why.HomeAddress cylinder head) = home_address_text cylinder head
sense_reason_text (why.BareTrack lacks) = bare_track_text lacks
