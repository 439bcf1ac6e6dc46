-- The names of commands (component descriptions, 'Channel Command Codes'), and of the bits of fields as they are written
-- (Principles of Operation, 'Channel Command Word' and 'Channel Status Word'; component descriptions, 'Sense').
use Rattle.std.specs.Prelude.{ℕ, List, [], ◌∷◌, ◌++◌, codes, ◌==◌, Option, Some, None, find, filter, Bool, true, false}
use Rattle.std.specs.List.{join_by}
use Rattle.s360_words.specs.Words.{has}
use Rattle.ckd_sense.specs.declared.commands.Command.{Command}
use Rattle.ckd_sense.specs.declared.commands.Command.TheVariants.{NoOperation, Recalibrate, Seek, SeekCylinder, SeekHead, SetFileMask, Sense}
use Rattle.ckd_sense.specs.declared.commands.Command.TheVariants.{SearchHomeAddressEqual, SearchIdEqual, SearchIdHigh, SearchIdEqualOrHigh, SearchKeyEqual}
use Rattle.ckd_sense.specs.declared.commands.Command.TheVariants.{SearchKeyHigh, SearchKeyEqualOrHigh, ReadIpl, ReadHomeAddress, ReadR0, ReadCount, ReadData}
use Rattle.ckd_sense.specs.declared.commands.Command.TheVariants.{ReadKeyAndData, ReadCountKeyAndData, WriteHomeAddress, WriteR0, WriteCountKeyAndData}
use Rattle.ckd_sense.specs.declared.commands.Command.TheVariants.{WriteData, WriteKeyAndData}
use Rattle.s360_explain.specs.declared.commands.Code.{Code}
use Rattle.s360_explain.specs.declared.commands.Code.TheVariants.{Transfer, Invalid, Drive, Unknown}
use Rattle.s360_explain.specs.declared.bits.Field.{Field}
use Rattle.s360_explain.specs.declared.bits.Field.TheVariants.{UnitStatus, ChannelStatus, CcwFlags, SenseBytes}
use Rattle.s360_explain.specs.Bits.{bits_of}
use Rattle.s360_explain.specs.Lines.{code_of}

-- the name of a command
abbrev pub command_name : Command → List ℕ
command_name NoOperation = codes "No-Operation"
command_name Recalibrate = codes "Recalibrate"
command_name Seek = codes "Seek"
command_name SeekCylinder = codes "Seek Cylinder"
command_name SeekHead = codes "Seek Head"
command_name SetFileMask = codes "Set File Mask"
command_name Sense = codes "Sense I/O"
command_name SearchHomeAddressEqual = codes "Search HA Equal"
command_name SearchIdEqual = codes "Search ID Equal"
command_name SearchIdHigh = codes "Search ID High"
command_name SearchIdEqualOrHigh = codes "Search ID Eq or High"
command_name SearchKeyEqual = codes "Search Key Equal"
command_name SearchKeyHigh = codes "Search Key High"
command_name SearchKeyEqualOrHigh = codes "Search Key Eq or High"
command_name ReadIpl = codes "Read IPL"
command_name ReadHomeAddress = codes "Read Home Address"
command_name ReadR0 = codes "Read R0"
command_name ReadCount = codes "Read Count"
command_name ReadData = codes "Read Data"
command_name ReadKeyAndData = codes "Read Key and Data"
command_name ReadCountKeyAndData = codes "Read Count, Key, Data"
command_name WriteHomeAddress = codes "Write Home Address"
command_name WriteR0 = codes "Write R0"
command_name WriteCountKeyAndData = codes "Write Count, Key, Data"
command_name WriteData = codes "Write Data"
command_name WriteKeyAndData = codes "Write Key and Data"

-- the name of what a command code asks for
abbrev pub name_of_code : Code → List ℕ
name_of_code Transfer = codes "Transfer In Channel"
name_of_code Invalid = codes "(no command)"
name_of_code Unknown = codes "(no command)"
name_of_code (Drive command) = command_name command.command

-- the name of a command code, as far as it has one
abbrev pub code_name : ℕ → List ℕ
code_name code = name_of_code (code_of code)

-- Bits.

-- the short names of the bits of unit status
abbrev pub short_unit_names : List (List ℕ × ℕ)
short_unit_names =
    (codes "ATTN", 0x80)
    ∷ (codes "SM", 0x40)
    ∷ (codes "CUE", 0x20)
    ∷ (codes "BUSY", 0x10)
    ∷ (codes "CE", 0x08)
    ∷ (codes "DE", 0x04)
    ∷ (codes "UC", 0x02)
    ∷ (codes "UE", 0x01)
    ∷ []

-- the names of the bits of unit status
abbrev pub unit_names : List (List ℕ × ℕ)
unit_names =
    (codes "attention", 0x80)
    ∷ (codes "status modifier", 0x40)
    ∷ (codes "control unit end", 0x20)
    ∷ (codes "busy", 0x10)
    ∷ (codes "channel end", 0x08)
    ∷ (codes "device end", 0x04)
    ∷ (codes "unit check", 0x02)
    ∷ (codes "unit exception", 0x01)
    ∷ []

-- the names of the bits of channel status
abbrev pub channel_names : List (List ℕ × ℕ)
channel_names =
    (codes "program-controlled interruption", 0x80)
    ∷ (codes "incorrect length", 0x40)
    ∷ (codes "program check", 0x20)
    ∷ (codes "protection check", 0x10)
    ∷ (codes "channel data check", 0x08)
    ∷ (codes "channel control check", 0x04)
    ∷ (codes "interface control check", 0x02)
    ∷ (codes "chaining check", 0x01)
    ∷ []

-- the names of the flags of a channel command word
abbrev pub flag_names : List (List ℕ × ℕ)
flag_names =
    (codes "chain data", 0x80)
    ∷ (codes "chain command", 0x40)
    ∷ (codes "suppress length indication", 0x20)
    ∷ (codes "skip", 0x10)
    ∷ (codes "program-controlled interruption", 0x08)
    ∷ []

-- the names of the bits of sense bytes 0 and 1
abbrev pub sense_names : List (List ℕ × ℕ)
sense_names =
    (codes "command reject", 0x8000)
    ∷ (codes "intervention required", 0x4000)
    ∷ (codes "bus out check", 0x2000)
    ∷ (codes "equipment check", 0x1000)
    ∷ (codes "data check", 0x0800)
    ∷ (codes "overrun", 0x0400)
    ∷ (codes "track condition check", 0x0200)
    ∷ (codes "seek check", 0x0100)
    ∷ (codes "data check in count area", 0x0080)
    ∷ (codes "track overrun", 0x0040)
    ∷ (codes "end of cylinder", 0x0020)
    ∷ (codes "invalid sequence", 0x0010)
    ∷ (codes "no record found", 0x0008)
    ∷ (codes "file protected", 0x0004)
    ∷ (codes "missing address marker", 0x0002)
    ∷ (codes "overflow incomplete", 0x0001)
    ∷ []

-- the name that a row of a table of names has
abbrev pub name_of_row : Option (List ℕ × ℕ) → List ℕ
name_of_row (Some row) = row.0
name_of_row None = codes "no name"

-- the name of a bit by a table of names
abbrev pub name_in : List (List ℕ × ℕ) → (bit : ℕ) → List ℕ
name_in rows bit = name_of_row (find (λ row. row.1 == bit) rows)

-- the name of a bit of a field
abbrev pub bit_name : Field → (bit : ℕ) → List ℕ
bit_name UnitStatus bit = name_in unit_names bit
bit_name ChannelStatus bit = name_in channel_names bit
bit_name CcwFlags bit = name_in flag_names bit
bit_name SenseBytes bit = name_in sense_names bit

-- Several bits in one line.

-- the name of a bit where others stand beside it: of unit status the short one
abbrev pub listed_name : Field → (bit : ℕ) → List ℕ
listed_name UnitStatus bit = name_in short_unit_names bit
listed_name ChannelStatus bit = bit_name ChannelStatus bit
listed_name CcwFlags bit = bit_name CcwFlags bit
listed_name SenseBytes bit = bit_name SenseBytes bit

-- what stands between two names
abbrev pub name_separator : Field → List ℕ
name_separator UnitStatus = codes " "
name_separator ChannelStatus = codes ", "
name_separator CcwFlags = codes ", "
name_separator SenseBytes = codes ", "

-- what stands before a name: nothing before the first
abbrev pub separator_at : (is_first : Bool) → Field → List ℕ
separator_at true field = []
separator_at false field = name_separator field

-- the names of these bits in one line
unfoldable pub bits_text : Field → List ℕ → List ℕ
bits_text field bits = join_by (listed_name field) (name_separator field) bits

-- the names of the bits of a field that are on in a number, from the left
abbrev pub names_text : Field → (number : ℕ) → List ℕ
names_text field number = bits_text field (filter (has number) (bits_of field))

-- Causes of a unit check.

-- what sense bytes 0 and 1 are reported for, by the causes of the component descriptions and the project's profile of which bits go together
abbrev pub cause_texts : List (List ℕ × ℕ)
cause_texts =
    (codes "the last command but Sense ended without unit check", 0x0000)
    ∷ (
      codes "the drive has no such command, or too few bytes came of a home address, a count or a seek address, "
          ++ codes "or Write Home Address was given a flag or the address of another track",
      0x8000,
    )
    ∷ (codes "the file mask does not allow this write", 0x8004)
    ∷ (codes "the file mask does not allow this seek, or does not allow the multi-track bit to go on at the next head", 0x0004)
    ∷ (
      codes "a write without the search right before it that compared all bytes and was equal, "
          ++ codes "or a second Set File Mask in one program",
      0x8010,
    )
    ∷ (codes "the index passed twice, and no such area was found", 0x0008)
    ∷ (codes "the cylinder's last head was passed", 0x0020)
    ∷ (codes "the track can't be read", 0x0802)
    ∷ (codes "the volume has no such bin, cylinder or head", 0x8100)
    ∷ (codes "the record does not fit the track", 0x0040)
    ∷ (codes "the image's file could not be read or written", 0x1000)
    ∷ []

-- the text that a row of causes has
abbrev pub text_of_cause : Option (List ℕ × ℕ) → List ℕ
text_of_cause (Some row) = row.0
text_of_cause None = codes "no cause of these drives alone"

-- what sense bytes 0 and 1 are reported for, in words
abbrev pub cause_text : (sense : ℕ) → List ℕ
cause_text sense = text_of_cause (find (λ row. row.1 == sense) cause_texts)
