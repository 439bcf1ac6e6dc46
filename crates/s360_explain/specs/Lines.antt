-- The lines of an explanation: which there are, and in which order.
use Rattle.std.specs.Prelude.{ℕ, ◌+◌, ◌*◌, ◌%◌, List, [], ◌∷◌, ◌++◌, map, Bool, not, ◌&&◌, ◌==◌, Option, Some, None, is_some, filter, find, if◌then◌else◌}
use Rattle.s360_words.specs.Words.{has, is_transfer, has_reserved_flags}
use Rattle.s360_words.specs.declared.words.Ccw.{Ccw}
use Rattle.s360_words.specs.declared.words.Csw.{Csw}
use Rattle.ckd_sense.specs.Commands.{decoded}
use Rattle.ckd_sense.specs.SenseBytes.{causes}
use Rattle.ckd_sense.specs.declared.commands.CommandCode.{CommandCode}
use Rattle.s360_explain.specs.Bits.{bits_of}
use Rattle.s360_explain.specs.declared.bits.Field.{Field}
use Rattle.s360_explain.specs.declared.bits.Field.TheVariants.{UnitStatus, ChannelStatus, CcwFlags, SenseBytes}
use Rattle.s360_explain.specs.declared.commands.Code.{Code}
use Rattle.s360_explain.specs.declared.commands.Code.TheVariants as code
use Rattle.s360_explain.specs.declared.lines.Line.{Line}
use Rattle.s360_explain.specs.declared.lines.Line.TheVariants as line
use Rattle.s360_explain.specs.declared.pasted.Pasted.{Pasted}
use Rattle.s360_explain.specs.declared.pasted.Pasted.TheVariants as pasted

-- Bits.

-- a line for each of these bits that is on in a number, in their order, and no other
abbrev pub lines_of_bits : Field → (number : ℕ) → (bits : List ℕ) → List Line
lines_of_bits field number bits = map (line.Bit field) (filter (has number) bits)

-- a line for each bit that is on and has a name, from the left, and no other
abbrev pub bit_lines : Field → (number : ℕ) → List Line
bit_lines field number = lines_of_bits field number (bits_of field)

-- the field as a number, and then its bits
unfoldable pub field_lines : Field → ℕ → List Line
field_lines field number = line.Number field number ∷ bit_lines field number

-- A channel status word.

-- unit status and channel status
abbrev pub status_lines : (unit channel : ℕ) → List Line
status_lines unit channel = field_lines UnitStatus unit ++ field_lines ChannelStatus channel

-- its second half
abbrev pub ending_lines : (unit channel count : ℕ) → List Line
ending_lines unit channel count = status_lines unit channel ++ (line.Residual count ∷ [])

-- whether no program has left it: key, address, channel status and count are zero, and channel end is off
abbrev pub is_of_no_program : Csw → Bool
is_of_no_program csw = csw.key == 0 && csw.address == 0 && csw.channel.0 == 0 && csw.count == 0 && not (has csw.unit.0 0x08)

-- all of it; of one that no program has left the status alone
unfoldable pub csw_lines : Csw → List Line
csw_lines csw =
    if is_of_no_program csw then line.NoProgram ∷ status_lines csw.unit.0 csw.channel.0
    else line.Key csw.key ∷ line.NextWord csw.address ∷ ending_lines csw.unit.0 csw.channel.0 csw.count

-- Sense bytes.

-- whether these drives report sense bytes 0 and 1 so for a cause
abbrev pub is_reported : ℕ → Bool
is_reported sense = is_some (find (λ c. c.byte_0 * 256 + c.byte_1 == sense) causes)

-- what the bits are reported for together
unfoldable pub cause_line : ℕ → Line
cause_line sense = if is_reported sense then line.Cause sense else line.NoCause

-- whether a byte is not zero
abbrev pub has_nonzero : List ℕ → Bool
has_nonzero bytes = is_some (find (λ byte. not (byte == 0)) bytes)

-- a line for bytes 2 to 5, where they are not zeros
abbrev pub further_lines : List ℕ → List Line
further_lines bytes = if has_nonzero bytes then line.Further ∷ [] else []

-- one to six sense bytes; of the first alone no cause is told
abbrev pub sense_lines : List ℕ → List Line
sense_lines [] = []
sense_lines (first ∷ []) = field_lines SenseBytes (first * 256) ++ (line.FirstByte ∷ [])
sense_lines (first ∷ second ∷ rest) =
    field_lines SenseBytes (first * 256 + second) ++ (cause_line (first * 256 + second) ∷ further_lines rest)

-- A channel command word.

-- a code that is no transfer's, by the commands of the drive
abbrev pub code_of_decoded : Option CommandCode → Code
code_of_decoded (Some command) = code.Drive command
code_of_decoded None = code.Unknown

-- what a command code is: a transfer in channel, none that a channel takes, one of the drive's, or another
abbrev pub code_of : ℕ → Code
code_of number =
    if number % 16 == 8 then code.Transfer
    else (if number % 16 == 0 then code.Invalid else code_of_decoded (decoded number))

-- a line where a bit is on that must be zero
abbrev pub reserved_lines : Ccw → List Line
reserved_lines ccw = if has_reserved_flags ccw then line.Reserved ∷ [] else []

-- data address, flags and count of a word that is no transfer
abbrev pub operand_lines : Ccw → List Line
operand_lines ccw =
    line.Address ccw.address ∷ field_lines CcwFlags ccw.flags.0 ++ reserved_lines ccw ++ (line.Count ccw.count ∷ [])

-- a word as a trace tells it, without its flags, and the unit status behind it
abbrev pub traced_lines : Ccw → (unit : ℕ) → List Line
traced_lines ccw unit =
    line.Command ccw.code (code_of ccw.code)
    ∷ (if is_transfer ccw then line.Target ccw.address ∷ []
    else line.Address ccw.address ∷ line.Count ccw.count ∷ field_lines UnitStatus unit)

-- all of a word; of a transfer in channel nothing counts but where it goes
abbrev pub ccw_lines : Ccw → List Line
ccw_lines ccw =
    line.Command ccw.code (code_of ccw.code)
    ∷ (if is_transfer ccw then line.Target ccw.address ∷ [] else operand_lines ccw)

-- A pasted line.

-- what stands in it, by what it is
abbrev pub pasted_lines : Pasted → List Line
pasted_lines (pasted.Status csw) = csw_lines csw
pasted_lines (pasted.Stored unit channel) = status_lines unit.0 channel.0
pasted_lines (pasted.Sense first second) = sense_lines (first ∷ second ∷ [])
pasted_lines (pasted.Word ccw unit) = traced_lines ccw unit.0
