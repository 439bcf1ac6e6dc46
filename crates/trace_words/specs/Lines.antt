-- The line of a channel command word in a trace. Hexadecimal digits are capitals.
use Rattle.std.specs.Prelude.{ℕ, ◌-◌, ◌==◌, min, Bool, true, false, not, ◌&&◌, ◌||◌, if◌then◌else◌, List, [], ◌∷◌, ◌++◌, length, replicate, take, codes}
use Rattle.std.specs.Prelude.{Option, Some, None, bit_and}
use Rattle.std.specs.List.{concat}
use Rattle.std.specs.Fmt.{decimal}
use Rattle.counted_io.specs.Text.{bytes_text}
use Rattle.s360_words.specs.Words.{is_transfer, skips}
use Rattle.s360_words.specs.declared.words.Ccw.{Ccw}
use Rattle.s360_explain.specs.Names.{code_name, names_text}
use Rattle.s360_explain.specs.declared.bits.Field.TheVariants as field
use Rattle.trace_words.specs.Numbers.{storage_address}
use Rattle.trace_words.specs.Columns.{in_columns}
use Rattle.trace_words.specs.Tracks.{worked_on_text}
use Rattle.trace_words.specs.declared.line.TraceLine.{TraceLine}
use Rattle.trace_words.specs.declared.line.Behind.{Behind}
use Rattle.trace_words.specs.declared.line.Onward.{Onward}
use Rattle.trace_words.specs.declared.line.Onward.TheVariants as onward
use Rattle.trace_words.specs.declared.line.ToldLine.{ToldLine}
use Rattle.trace_words.specs.declared.line.NotTaken.{NotTaken}
use Rattle.trace_words.specs.declared.worked_on.WorkedOn.TheVariants.{Nothing}

-- a word whose command begins: no byte has moved under it
abbrev pub line_of : (at : ℕ) → Ccw → TraceLine
line_of at ccw = record {
  at = at;
  ccw = ccw;
  code = ccw.code;
  is_chained = false;
  moved = 0;
  first = replicate 6 0;
  is_told = false;
}

-- a word that has a further area of the command of the word before it
abbrev pub chained_line : TraceLine → (at : ℕ) → Ccw → TraceLine
chained_line before at ccw = record (line_of at ccw) { code = before.code; is_chained = true }

-- The word.

-- the name of what a word asks for: of one that has a further area of a command that it has, but a transfer in channel is one there too
abbrev pub name_text : TraceLine → List ℕ
name_text l = if l.is_chained && not (is_transfer l.ccw) then codes "  (data chaining)" else code_name l.ccw.code

-- where a word stands, its code, and its name
abbrev pub word_text : TraceLine → List ℕ
word_text l = concat (storage_address l.at ∷ codes " " ∷ bytes_text (l.ccw.code ∷ []) ∷ codes " " ∷ name_text l ∷ [])

-- an address at which no word can stand
abbrev pub no_word_text : (at : ℕ) → List ℕ
no_word_text at = storage_address at ++ codes " (no word)"

-- Its count and its bytes.

-- whether a command gives bytes to storage: it reads, or it is Sense (Principles of Operation, 'Command Code')
abbrev pub gives_bytes : (code : ℕ) → Bool
gives_bytes code = bit_and code 0x03 == 0x02 || bit_and code 0x0F == 0x04

-- a number at the right end of so many columns
abbrev pub right_aligned : (columns n : ℕ) → List ℕ
right_aligned columns n = replicate (columns - length (decimal n)) 32 ++ decimal n

-- the count, and the data address behind the way in which bytes pass; of a transfer in channel, where it leads
abbrev pub operand_text : TraceLine → List ℕ
operand_text l =
    if is_transfer l.ccw then codes "      >" ++ storage_address l.ccw.address
    else concat (right_aligned 5 l.ccw.count ∷ codes " " ∷ (if gives_bytes l.code then codes ">" else codes "<") ∷ storage_address l.ccw.address ∷ [])

-- the first bytes that moved, six at most, or that they were kept out of storage
abbrev pub moved_text : TraceLine → List ℕ
moved_text l =
    if l.moved == 0 then []
    else if skips l.ccw && gives_bytes l.code then codes "skipped"
    else bytes_text (take (min 6 l.moved) l.first)

-- What comes behind it.

-- how the program goes on, or came to its end
abbrev pub onward_text : Onward → List ℕ
onward_text onward.Untold = []
onward_text onward.Chained = codes "chained"
onward_text onward.SkipsOne = codes "skips one"
onward_text onward.ChainsData = codes "chains data"
onward_text onward.StillRuns = codes "still runs"
onward_text onward.NotTaken = codes "not taken"
onward_text (onward.Ended left) = codes "left " ++ decimal left
onward_text onward.Cut = codes "cut"
onward_text (onward.Halted left) = codes "cut; left " ++ decimal left

-- unit status, and how the program goes on, at their columns
abbrev pub behind_columns : Behind → List (ℕ × List ℕ)
behind_columns b = (98, names_text field.UnitStatus b.unit.0) ∷ (107, onward_text b.onward) ∷ []

-- The lines.

-- a word, what its command worked on, and what comes behind it, at their columns
abbrev pub line_text : ToldLine → List ℕ
line_text l = in_columns (
    (0, word_text l.line) ∷ (34, operand_text l.line) ∷ (48, moved_text l.line) ∷ (61, worked_on_text l.worked_on) ∷ behind_columns l.behind) []

-- an address at which no word can stand
abbrev pub no_word_line : (at : ℕ) → Behind → List ℕ
no_word_line at b = in_columns ((0, no_word_text at) ∷ behind_columns b) []

-- the line of a word that was not taken, as a word begins a command or has a further area of one
abbrev pub not_taken_line : (before : Option TraceLine) → (at : ℕ) → Ccw → TraceLine
not_taken_line None at ccw = line_of at ccw
not_taken_line (Some before) at ccw = chained_line before at ccw

-- what stands at an address of a word that was not taken, if a word can, and what comes behind it
abbrev pub not_taken_at : (at : ℕ) → Option Ccw → (before : Option TraceLine) → Behind → List ℕ
not_taken_at at None before b = no_word_line at b
not_taken_at at (Some ccw) before b =
    line_text (record { line = not_taken_line before at ccw; worked_on = Nothing; behind = b })

-- a word that was not taken
abbrev pub not_taken_text : NotTaken → List ℕ
not_taken_text w = not_taken_at w.at w.word w.before (record { unit = w.unit; onward = onward.NotTaken })
