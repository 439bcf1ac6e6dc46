-- Statements: what a line says.
use Rattle.std.specs.Prelude.{ℕ, ◌+◌, ◌-◌, ◌%◌, List, [], length, take, drop, slice_index_or, Bool, ◌&&◌, ◌||◌, ◌==◌, nat_lt, nat_le}
use Rattle.std.specs.Prelude.{Option, Some, None, Result, Ok, Err, is_some, position, codes, if◌then◌else◌, true, false, not}
use Rattle.std.specs.List.{before_first, after_first}
use Rattle.std.specs.Str.{bytes_eq}
use Rattle.s360_deck.specs.Deck.{name_of, is_comment}
use Rattle.s360_deck.specs.Digits.{storage_address_of}
use Rattle.s360_deck.specs.declared.spelling.EventName.{EventName}
use Rattle.s360_deck.specs.declared.spelling.EventName.TheVariants as name
use Rattle.s360_assembler.specs.declared.fault.Cause.{Cause}
use Rattle.s360_assembler.specs.declared.files.LoadableFile.{LoadableFile}
use Rattle.s360_assembler.specs.declared.fault.Cause.TheVariants as cause
use Rattle.s360_assembler.specs.declared.fault.Mistake.{Mistake}
use Rattle.s360_assembler.specs.declared.statements.Statement.{Statement}
use Rattle.s360_assembler.specs.declared.statements.Statement.TheVariants as statement
use Rattle.s360_explain.specs.Mnemonics.{code_named}
use Rattle.s360_assembler.specs.Numbers.{number_to, address_of, flags_of}
use Rattle.s360_assembler.specs.Fields.{is_byte, label_of, operation_of, operation_at, operands_of, operands_at}
use Rattle.s360_assembler.specs.Constants.{constant_of, unit_of, boundary_of_unit, area_of}
use Rattle.s360_assembler.specs.Files.{file_name_of, has_name, bytes_at}

-- what is wrong at a byte of a line, the first of which is byte 0
abbrev pub mistake : (at : ℕ) → Cause → Result Statement Mistake
mistake at why = Err (record { column = at + 1; cause = why })

-- what is read of an operand goes on; or it is wrong
abbrev pub on_operand : {T : Type 0} → (at : ℕ) → Cause → Option T → (T → Result Statement Mistake) → Result Statement Mistake
on_operand at why (Some value) behind = behind value
on_operand at why None behind = mistake at why

-- Channel command words.

-- a comma
abbrev pub is_comma : ℕ → Bool
is_comma = is_byte 44

-- the count, which a Transfer In Channel need not have
abbrev pub count_of : (code : ℕ) → List ℕ → Option ℕ
count_of code text = if length text == 0 && code % 16 == 8 then Some 0 else number_to 65535 text

-- address, flags and count of a word with this code
abbrev pub word_statement : (code at : ℕ) → List ℕ → Result Statement Mistake
word_statement code at text =
    let first = before_first is_comma text in
    let behind = after_first is_comma text in
    let second = before_first is_comma behind in
    on_operand at cause.Address (address_of first) (λ address.
    on_operand (at + length first + 1) cause.Flags (flags_of second) (λ flags.
    on_operand (at + length first + length second + 2) cause.Count (count_of code (after_first is_comma behind)) (λ count.
    Ok (statement.Word (record { code = code; address = address; flags = flags; count = count })))))

-- code, address, flags and count
abbrev pub any_word_statement : (at : ℕ) → List ℕ → Result Statement Mistake
any_word_statement at text =
    let first = before_first is_comma text in
    on_operand at cause.Code (number_to 255 first) (λ code.
    word_statement code (at + length first + 1) (after_first is_comma text))

-- Storage.

-- an address constant, as A(START)
abbrev pub is_pointer : List ℕ → Bool
is_pointer text =
    nat_le 3 (length text) && (slice_index_or text 0 0 == 65
    && (slice_index_or text 1 0 == 40 && slice_index_or text (length text - 1) 0 == 41))

-- what stands in its brackets
abbrev pub pointer_in : List ℕ → Option (List ℕ)
pointer_in text = if is_pointer text then Some (take (length text - 3) (drop 2 text)) else None

-- an address constant, or another constant
abbrev pub pointer_or_constant : (at : ℕ) → List ℕ → Option (List ℕ) → Result Statement Mistake
pointer_or_constant at text (Some inner) = on_operand at cause.Address (address_of inner) (λ address. Ok (statement.Pointer address))
pointer_or_constant at text None =
    on_operand at cause.Constant (constant_of text) (λ bytes.
    Ok (statement.Constant (boundary_of_unit (unit_of text)) (record { items = bytes })))

-- a constant
abbrev pub constant_statement : (at : ℕ) → List ℕ → Result Statement Mistake
constant_statement at text = pointer_or_constant at text (pointer_in text)

-- an area of storage
abbrev pub area_statement : (at : ℕ) → List ℕ → Result Statement Mistake
area_statement at text =
    on_operand at cause.Area (area_of text) (λ bytes. Ok (statement.Reserve (boundary_of_unit (unit_of text)) bytes))

-- where the lines behind it stand
abbrev pub origin_statement : (at : ℕ) → List ℕ → Result Statement Mistake
origin_statement at text = on_operand at cause.Address (address_of text) (λ address. Ok (statement.Origin address))

-- the bytes of the file of this name, which is one of those that are given
abbrev pub load_statement : List LoadableFile → (at : ℕ) → List ℕ → Result Statement Mistake
load_statement files at text =
    on_operand at cause.FileName (file_name_of text) (λ name.
    on_operand at cause.Unread (position (has_name name) files) (λ place.
    Ok (statement.Load place (length (bytes_at files place)))))

-- Events.

-- the events that have an address of storage
abbrev pub has_storage_address : EventName → Bool
has_storage_address name.Store = true
has_storage_address name.Key = true
has_storage_address name.Show = true
has_storage_address n = false

-- an event; where it has an address of storage that is not hexadecimal digits alone, with that as an address of this language
abbrev pub event_statement : EventName → (at : ℕ) → List ℕ → Result Statement Mistake
event_statement n at text =
    if has_storage_address n && not (is_some (storage_address_of text))
    then on_operand at cause.Address (address_of text) (λ address. Ok (statement.EventAt address))
    else Ok statement.Event

-- Lines.

-- a channel command word with this code, if the operation has one
abbrev pub command_statement : Option ℕ → (operation_at at : ℕ) → List ℕ → Result Statement Mistake
command_statement None operation_at at text = mistake operation_at cause.Operation
command_statement (Some code) operation_at at text = word_statement code at text

-- a line whose operation is no event's name
abbrev pub storage_statement : List LoadableFile → (operation : List ℕ) → (operation_at at : ℕ) → List ℕ → Result Statement Mistake
storage_statement files operation operation_at at text =
    if bytes_eq operation (codes "DC") then constant_statement at text
    else (if bytes_eq operation (codes "DS") then area_statement at text
    else (if bytes_eq operation (codes "CCW") then any_word_statement at text
    else (if bytes_eq operation (codes "ORG") then origin_statement at text
    else (if bytes_eq operation (codes "LOAD") then load_statement files at text
    else command_statement (code_named operation) operation_at at text))))

-- an event, if the operation is the name of one; or else what stands in storage
abbrev pub named_statement : List LoadableFile → Option EventName → (operation : List ℕ) → (operation_at at : ℕ) → List ℕ → Result Statement Mistake
named_statement files (Some n) operation operation_at at text = event_statement n at text
named_statement files None operation operation_at at text = storage_statement files operation operation_at at text

-- the label of a line that is no comment
abbrev pub label_in : List ℕ → List ℕ
label_in line = if is_comment (label_of line) then [] else label_of line

-- a comment begins with an asterisk, in the first column or behind blanks
abbrev pub says_nothing : List ℕ → Bool
says_nothing line =
    is_comment (label_of line)
    || (length (label_of line) == 0 && (length (operation_of line) == 0 || is_comment (operation_of line)))

-- What a line says, where these files may be loaded; or what is wrong with it: it is too long, or its operation or an operand is.
abbrev pub statement_of : List LoadableFile → (line : List ℕ) → Result Statement Mistake
statement_of files line =
    if nat_lt 512 (length line) then mistake 0 cause.LongLine
    else (if says_nothing line then Ok statement.Nothing
    else named_statement files (name_of (operation_of line)) (operation_of line) (operation_at line) (operands_at line) (operands_of line))
