-- The words of commands: a mnemonic for each, behind which MT stands for the multi-track bit.
use Rattle.std.specs.Prelude.{ℕ, ◌+◌, List, [], ◌∷◌, ◌++◌, Bool, false, ◌||◌, ◌==◌, Option, Some, None, find, map, flat_map, codes}
use Rattle.std.specs.Prelude.{if◌then◌else◌}
use Rattle.std.specs.Char.{to_ascii_uppercase}
use Rattle.std.specs.Str.{bytes_eq}
use Rattle.ckd_sense.specs.Commands.{Row, command_table, decoded}
use Rattle.ckd_sense.specs.declared.commands.Command.{Command}
use Rattle.ckd_sense.specs.declared.commands.Command.TheVariants.{NoOperation, Recalibrate, Seek, SeekCylinder, SeekHead, SetFileMask}
use Rattle.ckd_sense.specs.declared.commands.Command.TheVariants.{Sense, SearchHomeAddressEqual, SearchIdEqual, SearchIdHigh}
use Rattle.ckd_sense.specs.declared.commands.Command.TheVariants.{SearchIdEqualOrHigh, SearchKeyEqual, SearchKeyHigh, SearchKeyEqualOrHigh}
use Rattle.ckd_sense.specs.declared.commands.Command.TheVariants.{ReadIpl, ReadHomeAddress, ReadR0, ReadCount, ReadData, ReadKeyAndData}
use Rattle.ckd_sense.specs.declared.commands.Command.TheVariants.{ReadCountKeyAndData, WriteHomeAddress, WriteR0, WriteCountKeyAndData}
use Rattle.ckd_sense.specs.declared.commands.Command.TheVariants.{WriteData, WriteKeyAndData}
use Rattle.ckd_sense.specs.declared.commands.CommandCode.{CommandCode}
use Rattle.s360_explain.specs.Names.{code_name}

-- the mnemonic of a command
abbrev pub mnemonic : Command → List ℕ
mnemonic NoOperation = codes "NOP"
mnemonic Recalibrate = codes "RECAL"
mnemonic Seek = codes "SEEK"
mnemonic SeekCylinder = codes "SEEKC"
mnemonic SeekHead = codes "SEEKH"
mnemonic SetFileMask = codes "SFM"
mnemonic Sense = codes "SENSE"
mnemonic SearchHomeAddressEqual = codes "SHAEQ"
mnemonic SearchIdEqual = codes "SIDEQ"
mnemonic SearchIdHigh = codes "SIDHI"
mnemonic SearchIdEqualOrHigh = codes "SIDEH"
mnemonic SearchKeyEqual = codes "SKEQ"
mnemonic SearchKeyHigh = codes "SKHI"
mnemonic SearchKeyEqualOrHigh = codes "SKEH"
mnemonic ReadIpl = codes "RDIPL"
mnemonic ReadHomeAddress = codes "RDHA"
mnemonic ReadR0 = codes "RDR0"
mnemonic ReadCount = codes "RDCT"
mnemonic ReadData = codes "RD"
mnemonic ReadKeyAndData = codes "RDKD"
mnemonic ReadCountKeyAndData = codes "RDCKD"
mnemonic WriteHomeAddress = codes "WRHA"
mnemonic WriteR0 = codes "WRR0"
mnemonic WriteCountKeyAndData = codes "WRCKD"
mnemonic WriteData = codes "WR"
mnemonic WriteKeyAndData = codes "WRKD"

-- the word of a code that is a command's
abbrev pub command_word : Option CommandCode → List ℕ
command_word None = []
command_word (Some c) = if c.multi_track then mnemonic c.command ++ codes "MT" else mnemonic c.command

-- the word of a code: TIC for Transfer In Channel, that of the drive's command, or none
abbrev pub word_of : ℕ → List ℕ
word_of code = if code == 0x08 then codes "TIC" else command_word (decoded code)

-- whether a code is that of a command with the multi-track bit
abbrev pub has_multi_track : Option CommandCode → Bool
has_multi_track None = false
has_multi_track (Some c) = c.multi_track

-- whether a code has the multi-track bit
abbrev pub is_multi_track : ℕ → Bool
is_multi_track code = has_multi_track (decoded code)

-- the long name of a code, behind which MT stands too, in capitals and in apostrophes
abbrev pub quoted_name_of : ℕ → List ℕ
quoted_name_of code =
    39 ∷ map to_ascii_uppercase (code_name code) ++ (if is_multi_track code then codes " MT" else []) ++ 39 ∷ []

-- the codes of a row of the drive's commands
abbrev pub codes_of_row : Row → List ℕ
codes_of_row row = if row.has_multi_track then row.code ∷ (row.code + 0x80) ∷ [] else row.code ∷ []

-- the codes that have words: Transfer In Channel, and those of the drive's commands
abbrev pub worded_codes : List ℕ
worded_codes = 0x08 ∷ flat_map codes_of_row command_table

-- whether a word is that of a code, or its long name
abbrev pub names : (code : ℕ) → List ℕ → Bool
names code word = bytes_eq (word_of code) word || bytes_eq (quoted_name_of code) word

-- the code of a word
abbrev pub code_named : List ℕ → Option ℕ
code_named word = find (λ code. names code word) worded_codes
