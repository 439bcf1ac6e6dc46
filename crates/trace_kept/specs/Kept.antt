-- What a program keeps of a trace between two looks, in plain numbers, and what it is again. Zeros are nothing.
use Rattle.std.specs.Prelude.{ℕ, ◌+◌, ◌-◌, ◌==◌, nat_lt, if◌then◌else◌, Bool, true, false, not, Option, None, Some, List, replicate}
use Rattle.ckd_command.specs.declared.registers.Credit.{Credit}
use Rattle.ckd_command.specs.declared.registers.Credit.TheVariants.{EqualHomeAddress, EqualId, EqualKey, WroteHomeAddress, WroteRecord}
use Rattle.ckd_position.specs.declared.areas.Area.{Area}
use Rattle.ckd_position.specs.declared.areas.Area.TheVariants.{HomeAddress, Of}
use Rattle.ckd_position.specs.declared.areas.RecordPart.TheVariants.{Count, Key, Data}
use Rattle.s360_words.specs.declared.words.Ccw.{Ccw}
use Rattle.trace_words.specs.declared.line.TraceLine.{TraceLine}
use Rattle.trace_words.specs.declared.met.Met.{Met}
use Rattle.trace_words.specs.declared.passed.Passed.{Passed}
use Rattle.trace_kept.specs.declared.kept.KeptWord.{KeptWord}
use Rattle.trace_kept.specs.declared.kept.KeptArea.{KeptArea}
use Rattle.trace_kept.specs.declared.kept.KeptLine.{KeptLine}
use Rattle.trace_kept.specs.declared.kept.KeptBytes.{KeptBytes}

-- one more than a number, or 0 where there is none
abbrev pub one_more : Option ℕ → ℕ
one_more None = 0
one_more (Some n) = n + 1

-- the number than which this is one more, if it is below a limit
abbrev pub number_below : (limit kept : ℕ) → Option ℕ
number_below limit kept = if kept == 0 then None else if nat_lt (kept - 1) limit then Some (kept - 1) else None

-- 1 for yes, 0 for no
abbrev pub one_if : Bool → ℕ
one_if true = 1
one_if false = 0

-- a word, field by field
abbrev pub kept_word : Ccw → KeptWord
kept_word w = record { address = w.address; count = w.count; code = w.code; flags = w.flags.0 }

-- the word of such fields
abbrev pub word_in : KeptWord → Ccw
word_in k = record { code = k.code; address = k.address; flags = record { 0 = k.flags }; count = k.count }

-- the number of an area: 1 the home address, 2 a count, 3 a key, 4 a data area
abbrev pub number_of_area : Area → ℕ
number_of_area HomeAddress = 1
number_of_area (Of Count _) = 2
number_of_area (Of Key _) = 3
number_of_area (Of Data _) = 4

-- the record of an area
abbrev pub record_of_area : Area → ℕ
record_of_area HomeAddress = 0
record_of_area (Of _ n) = n

-- the area of such a number, of this record
abbrev pub area_of : (area number : ℕ) → Option Area
area_of area number =
    if area == 1 then Some HomeAddress
    else if area == 2 then Some (Of Count number)
    else if area == 3 then Some (Of Key number)
    else if area == 4 then Some (Of Data number)
    else None

-- whether a count area was seen
abbrev pub is_seen : Option (List ℕ) → ℕ
is_seen None = 0
is_seen (Some _) = 1

-- its bytes, or zeros
abbrev pub bytes_seen : Option (List ℕ) → List ℕ
bytes_seen None = replicate 8 0
bytes_seen (Some bytes) = bytes

-- an area that was met
abbrev pub kept_area : Option Met → KeptArea
kept_area None = record { number = 0; count = replicate 8 0; area = 0; is_counted = 0; reserved = replicate 6 0 }
kept_area (Some m) = record {
  number = record_of_area m.area;
  count = bytes_seen m.count;
  area = number_of_area m.area;
  is_counted = is_seen m.count;
  reserved = replicate 6 0;
}

-- an area with the count area of its record
abbrev pub met_with : Option Area → Option (List ℕ) → Option Met
met_with None _ = None
met_with (Some a) count = Some (record { area = a; count = count })

-- the area that was met
abbrev pub met_in : KeptArea → Option Met
met_in k = met_with (area_of k.area k.number) (if k.is_counted == 0 then None else Some k.count)

-- the number of a credit: 0 none, 1 an equal home address, 2 an equal identifier, 3 an equal key, 4 a home address that was written, 5 a
-- record that was
abbrev pub number_of_credit : Option Credit → ℕ
number_of_credit None = 0
number_of_credit (Some EqualHomeAddress) = 1
number_of_credit (Some (EqualId _)) = 2
number_of_credit (Some (EqualKey _)) = 3
number_of_credit (Some WroteHomeAddress) = 4
number_of_credit (Some (WroteRecord _)) = 5

-- the record of a credit
abbrev pub record_of_credit : Option Credit → ℕ
record_of_credit None = 0
record_of_credit (Some EqualHomeAddress) = 0
record_of_credit (Some (EqualId n)) = n
record_of_credit (Some (EqualKey n)) = n
record_of_credit (Some WroteHomeAddress) = 0
record_of_credit (Some (WroteRecord n)) = n

-- the credit of such a number, for this record
abbrev pub credit_of : (credit number : ℕ) → Option Credit
credit_of credit number =
    if credit == 1 then Some EqualHomeAddress
    else if credit == 2 then Some (EqualId number)
    else if credit == 3 then Some (EqualKey number)
    else if credit == 4 then Some WroteHomeAddress
    else if credit == 5 then Some (WroteRecord number)
    else None

-- no word
abbrev pub no_word : KeptWord
no_word = record { address = 0; count = 0; code = 0; flags = 0 }

-- the line of the word at work
abbrev pub kept_line : Option TraceLine → KeptLine
kept_line None = record {
  at = 0;
  moved = 0;
  word = no_word;
  first = replicate 6 0;
  code = 0;
  is_chained = 0;
  is_told = 0;
  is_known = 0;
  reserved = replicate 2 0;
}
kept_line (Some l) = record {
  at = l.at;
  moved = l.moved;
  word = kept_word l.ccw;
  first = l.first;
  code = l.code;
  is_chained = one_if l.is_chained;
  is_told = one_if l.is_told;
  is_known = 1;
  reserved = replicate 2 0;
}

-- the line
abbrev pub line_in : KeptLine → Option TraceLine
line_in k = if k.is_known == 0 then None else Some (record {
  at = k.at;
  ccw = word_in k.word;
  code = k.code;
  is_chained = not (k.is_chained == 0);
  moved = k.moved;
  first = k.first;
  is_told = not (k.is_told == 0);
})

-- what has passed in a command
abbrev pub kept_bytes : Passed → KeptBytes
kept_bytes p = record { first = p.first; count = p.count; has_turned = one_if p.has_turned; reserved = replicate 3 0 }

-- what has passed
abbrev pub bytes_in : KeptBytes → Passed
bytes_in k = record { count = k.count; first = k.first; has_turned = not (k.has_turned == 0) }
