-- The command codes (component descriptions of the 2841 and the 2314, 'Channel Command Codes').
use Rattle.std.specs.Prelude.{ℕ, ◌+◌, List, [], ◌∷◌, Bool, true, false, not, ◌&&◌, ◌||◌, ◌==◌, Option, find, option_map}
use Rattle.ckd_sense.specs.declared.commands.Command.{Command}
use Rattle.ckd_sense.specs.declared.commands.Command.TheVariants.{NoOperation, Recalibrate, Seek, SeekCylinder, SeekHead, SetFileMask, Sense}
use Rattle.ckd_sense.specs.declared.commands.Command.TheVariants.{SearchHomeAddressEqual, SearchIdEqual, SearchIdHigh, SearchIdEqualOrHigh, SearchKeyEqual}
use Rattle.ckd_sense.specs.declared.commands.Command.TheVariants.{SearchKeyHigh, SearchKeyEqualOrHigh, ReadIpl, ReadHomeAddress, ReadR0, ReadCount, ReadData}
use Rattle.ckd_sense.specs.declared.commands.Command.TheVariants.{ReadKeyAndData, ReadCountKeyAndData, WriteHomeAddress, WriteR0, WriteCountKeyAndData}
use Rattle.ckd_sense.specs.declared.commands.Command.TheVariants.{WriteData, WriteKeyAndData}
use Rattle.ckd_sense.specs.declared.commands.CommandCode.{CommandCode}

-- a row of the table of command codes
pub record Row : Type 0 where
  pub code : ℕ
  -- whether the code with the multi-track bit, 80, is the same command over several tracks
  pub has_multi_track : Bool
  pub command : Command

-- a command with one code
abbrev pub single : ℕ → Command → Row
single code command = record { code = code; has_multi_track = false; command = command }

-- a command with a second code, with the multi-track bit
abbrev pub double : ℕ → Command → Row
double code command = record { code = code; has_multi_track = true; command = command }

-- the commands and their codes
abbrev pub command_table : List Row
command_table =
    single 0x03 NoOperation
    ∷ single 0x13 Recalibrate
    ∷ single 0x07 Seek
    ∷ single 0x0B SeekCylinder
    ∷ single 0x1B SeekHead
    ∷ single 0x1F SetFileMask
    ∷ single 0x04 Sense
    ∷ double 0x39 SearchHomeAddressEqual
    ∷ double 0x31 SearchIdEqual
    ∷ double 0x51 SearchIdHigh
    ∷ double 0x71 SearchIdEqualOrHigh
    ∷ double 0x29 SearchKeyEqual
    ∷ double 0x49 SearchKeyHigh
    ∷ double 0x69 SearchKeyEqualOrHigh
    ∷ single 0x02 ReadIpl
    ∷ double 0x1A ReadHomeAddress
    ∷ double 0x16 ReadR0
    ∷ double 0x12 ReadCount
    ∷ double 0x06 ReadData
    ∷ double 0x0E ReadKeyAndData
    ∷ double 0x1E ReadCountKeyAndData
    ∷ single 0x19 WriteHomeAddress
    ∷ single 0x15 WriteR0
    ∷ single 0x1D WriteCountKeyAndData
    ∷ single 0x05 WriteData
    ∷ single 0x0D WriteKeyAndData
    ∷ []

-- whether a code is that of a row, with or without the multi-track bit
abbrev pub stands_for : ℕ → Row → Bool
stands_for code row = code == row.code || (row.has_multi_track && code == row.code + 0x80)

-- the command of a row, and whether the code has the multi-track bit
abbrev pub read_as : ℕ → Row → CommandCode
read_as code row = record { command = row.command; multi_track = not (code == row.code) }

-- what a code says, by the table; none where no row has the code
abbrev pub decoded : ℕ → Option CommandCode
decoded code = option_map (read_as code) (find (stands_for code) command_table)
