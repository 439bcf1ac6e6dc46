-- The records of a text: one for each line, all of one length.
use Rattle.std.specs.Prelude.{◌≡◌, ℕ, ◌+◌, ◌-◌, nat_lt, if◌then◌else◌, List, [], ◌∷◌, ◌++◌, length, replicate, Option, Some, None, Result, Ok, Err}
use Rattle.record_tracks.specs.declared.text_faults.TextLineFault.{TextLineFault}
use Rattle.record_tracks.specs.declared.text_faults.TextLineFault.TheVariants.{TooLong, NoCharacter}
use Rattle.record_tracks.specs.declared.text_faults.TextRecordsFault.{TextRecordsFault}
use Rattle.record_tracks.specs.declared.text_faults.TextRecordsFault.TheVariants.{Line, OutOfMemory}
use Rattle.record_tracks.specs.Codes.{line_codes}
use Rattle.record_tracks.specs.Lines.{lines_of}

-- bytes of EBCDIC with blanks behind them
abbrev pub padded : (size : ℕ) → (codes : List ℕ) → List ℕ
padded size codes = codes ++ replicate (size - length codes) 0x40

-- the record of a line with these bytes, or why there is none
abbrev pub record_with : (size : ℕ) → (codes : Option (List ℕ)) → Result (List ℕ) TextLineFault
record_with size None = Err NoCharacter
record_with size (Some codes) = if nat_lt size (length codes) then Err TooLong else Ok (padded size codes)

-- A record of this length has the characters of a line in EBCDIC, and blanks behind them.
abbrev pub record_of : (size : ℕ) → (line : List ℕ) → Result (List ℕ) TextLineFault
record_of size line = record_with size (line_codes line)

-- the record of a line before those of others; a fault is told with the number of its line
abbrev pub and_records : (number : ℕ) → Result (List ℕ) TextLineFault → Result (List ℕ) TextRecordsFault → Result (List ℕ) TextRecordsFault
and_records number (Ok bytes) (Ok others) = Ok (bytes ++ others)
and_records number (Ok bytes) (Err fault) = Err fault
and_records number (Err fault) others = Err (Line number fault)

-- the records of lines that are numbered from this number on, one behind another; or the first fault
unfoldable pub records_from : (size number : ℕ) → (lines : List (List ℕ)) → Result (List ℕ) TextRecordsFault
records_from size number [] = Ok []
records_from size number (line ∷ lines) = and_records number (record_of size line) (records_from size (number + 1) lines)

-- the records of a text, whose lines are numbered from 1 on
abbrev pub records_of : (size : ℕ) → (text : List ℕ) → Result (List ℕ) TextRecordsFault
records_of size text = records_from size 1 (lines_of text)

-- there is no memory, or this is why there are no records
abbrev pub IsFault : (size : ℕ) → (text : List ℕ) → TextRecordsFault → Type 0
IsFault size text OutOfMemory = Unit {0}
IsFault size text (Line number fault) = records_of size text ≡ Err (Line number fault)
