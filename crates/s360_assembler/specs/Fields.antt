-- The fields of a line: a label from its first column on, behind blanks an operation, behind blanks its operands, and behind these a remark.
use Rattle.std.specs.Prelude.{ℕ, ◌+◌, List, [], ◌∷◌, length, take, drop, min, slice_index_or, Bool, false, not, ◌&&◌, ◌||◌, ◌==◌}
use Rattle.std.specs.Prelude.{if◌then◌else◌}
use Rattle.std.specs.Char.{to_ascii_uppercase}
use Rattle.std.specs.List.{position_or_len}
use Rattle.s360_deck.specs.Deck.{is_blank}
use Rattle.s360_assembler.specs.declared.fields.Quoting.{Quoting}
use Rattle.s360_assembler.specs.declared.fields.Quoting.TheVariants.{Outside, Letter, Text, Digits}

-- Small letters.

-- How the byte after this one is read: within the apostrophes of a text C'..', within others, or as all else. After the letter C an
-- apostrophe begins a text, and after the apostrophe that ends one another goes on with it, since an apostrophe in a text is written twice.
abbrev pub quoting_behind : Quoting → ℕ → Quoting
quoting_behind Text byte = if byte == 39 then Letter else (if byte == 10 then Outside else Text)
quoting_behind Digits byte = if byte == 39 || byte == 10 then Outside else Digits
quoting_behind Letter byte = if byte == 39 then Text else (if byte == 67 || byte == 99 then Letter else Outside)
quoting_behind Outside byte = if byte == 39 then Digits else (if byte == 67 || byte == 99 then Letter else Outside)

-- a byte as it is read
abbrev pub raised_byte : Quoting → ℕ → ℕ
raised_byte Text byte = byte
raised_byte Outside byte = to_ascii_uppercase byte
raised_byte Letter byte = to_ascii_uppercase byte
raised_byte Digits byte = to_ascii_uppercase byte

-- small letters are capitals, but within C'..'
abbrev pub raised : Quoting → List ℕ → List ℕ
raised quoting [] = []
raised quoting (byte ∷ text) = raised_byte quoting byte ∷ raised (quoting_behind quoting byte) text

-- Fields.

-- a byte that is no blank
abbrev pub is_printing : ℕ → Bool
is_printing byte = not (is_blank byte)

-- how many bytes stand before the first blank; and before the first byte that is none
abbrev pub word_length : List ℕ → ℕ
word_length text = position_or_len is_blank text

-- how many blanks a text begins with
abbrev pub gap_length : List ℕ → ℕ
gap_length text = position_or_len is_printing text

-- what stands before the first blank
abbrev pub label_of : List ℕ → List ℕ
label_of line = take (word_length line) line

-- where the operation begins
abbrev pub operation_at : List ℕ → ℕ
operation_at line = word_length line + gap_length (drop (word_length line) line)

-- this byte and no other
abbrev pub is_byte : (wanted : ℕ) → ℕ → Bool
is_byte wanted byte = byte == wanted

-- an apostrophe
abbrev pub is_apostrophe : ℕ → Bool
is_apostrophe = is_byte 39

-- how many bytes stand before the first blank; or as far as the second apostrophe, where an apostrophe stands first
abbrev pub operation_length : List ℕ → ℕ
operation_length text =
    if slice_index_or text 0 0 == 39 then min (position_or_len is_apostrophe (drop 1 text) + 2) (length text) else word_length text

-- what stands behind the label and blanks
abbrev pub operation_of : List ℕ → List ℕ
operation_of line =
    let text = drop (operation_at line) line in
    take (operation_length text) text

-- where the operands begin
abbrev pub operands_at : List ℕ → ℕ
operands_at line =
    let behind = operation_at line + operation_length (drop (operation_at line) line) in
    behind + gap_length (drop behind line)

-- how many bytes stand before the first blank that is not within apostrophes
abbrev pub operands_length : (is_quoted : Bool) → List ℕ → ℕ
operands_length is_quoted [] = 0
operands_length is_quoted (byte ∷ text) =
    if is_blank byte && not is_quoted then 0
    else 1 + operands_length (if byte == 39 then not is_quoted else is_quoted) text

-- the operands, and what stands behind them
abbrev pub operands_of : List ℕ → List ℕ
operands_of line =
    let text = drop (operands_at line) line in
    take (operands_length false text) text

-- what stands behind the operands
abbrev pub remark_of : List ℕ → List ℕ
remark_of line = drop (operands_at line + length (operands_of line)) line
