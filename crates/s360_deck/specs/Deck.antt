-- A deck: the lines of a text, and the event that each line spells.
use Rattle.std.specs.Prelude.{◌≡◌, ℕ, ◌+◌, ◌-◌, take, slice_index_or, List, [], ◌∷◌, ◌++◌, map, length, filter, flat_map, Bool, false, not, ◌||◌, ◌==◌, nat_lt}
use Rattle.std.specs.Prelude.{Option, Some, None, option_map, option_and_then, Result, Ok, Err, codes, if◌then◌else◌}
use Rattle.std.specs.Char.{to_ascii_uppercase}
use Rattle.std.specs.List.{slice_split, onto_first}
use Rattle.std.specs.Str.{bytes_eq}
use Rattle.std.specs.Global.{Vec}
use Rattle.s360_laws.specs.declared.events.Event.{Event}
use Rattle.s360_laws.specs.declared.events.Event.TheVariants as event
use Rattle.s360_deck.specs.declared.fault.DeckFault.{DeckFault}
use Rattle.s360_deck.specs.declared.fault.DeckFault.TheVariants as fault
use Rattle.s360_deck.specs.declared.spelling.EventName.{EventName}
use Rattle.s360_deck.specs.declared.spelling.EventName.TheVariants as name
use Rattle.s360_deck.specs.declared.spelling.LineFault.{LineFault}
use Rattle.s360_deck.specs.declared.spelling.LineFault.TheVariants as line
use Rattle.s360_deck.specs.Digits.{device_address_of, storage_address_of, key_of, count_within, run_units_of, stored_bytes_of}

-- Lines and words.

-- each line ends with LF, which the last may lack
abbrev pub lines_of : List ℕ → List (List ℕ)
lines_of [] = []
lines_of (byte ∷ text) = if byte == 10 then [] ∷ lines_of text else onto_first byte (lines_of text)

-- one CR at a line's end is dropped
abbrev pub without_return : List ℕ → List ℕ
without_return line =
    let rest = length line - 1 in
    if slice_index_or line rest 0 == 13 then take rest line else line

-- words are separated by spaces and tabs
abbrev pub is_blank : ℕ → Bool
is_blank byte = byte == 32 || byte == 9

-- a word has no characters
abbrev pub is_empty : List ℕ → Bool
is_empty text = length text == 0

-- the words of a line
abbrev pub words_of : List ℕ → List (List ℕ)
words_of text = filter (λ word. not (is_empty word)) (slice_split is_blank text)

-- Events.

-- the event that a word names, if it names one
abbrev pub name_of : List ℕ → Option EventName
name_of word =
    if bytes_eq word (codes "ARRIVE") then Some name.Arrive
    else (if bytes_eq word (codes "SIO") then Some name.Sio
    else (if bytes_eq word (codes "TIO") then Some name.Tio
    else (if bytes_eq word (codes "HIO") then Some name.Hio
    else (if bytes_eq word (codes "TCH") then Some name.Tch
    else (if bytes_eq word (codes "STEP") then Some name.Step
    else (if bytes_eq word (codes "RUN") then Some name.Run
    else (if bytes_eq word (codes "INT") then Some name.Int
    else (if bytes_eq word (codes "RESET") then Some name.Reset
    else (if bytes_eq word (codes "STORE") then Some name.Store
    else (if bytes_eq word (codes "KEY") then Some name.Key
    else (if bytes_eq word (codes "SHOW") then Some name.Show
    else None)))))))))))

-- no operand; one; or two
abbrev pub without_operand : List (List ℕ) → Event → Option Event
without_operand words e = if length words == 0 then Some e else None

-- the word of one alone
abbrev pub only : List (List ℕ) → Option (List ℕ)
only (word ∷ []) = Some word
only words = None

-- the event of two words
abbrev pub two_of : (List ℕ → List ℕ → Option Event) → List (List ℕ) → Option Event
two_of f (first ∷ second ∷ []) = f first second
two_of f words = None

-- the address of a device, as the one operand
abbrev pub device_address_in : List (List ℕ) → Option ℕ
device_address_in words = option_and_then device_address_of (only words)

-- a number of units, as the one operand
abbrev pub units_in : List (List ℕ) → Option ℕ
units_in words = option_and_then (count_within 0 65535) (only words)

-- the units of a run: where no operand says how many, 16,777,216 at most
abbrev pub run_units_in : List (List ℕ) → Option ℕ
run_units_in [] = Some 16777216
run_units_in words = option_and_then run_units_of (only words)

-- words without the spaces between them
abbrev pub joined : List (List ℕ) → List ℕ
joined words = flat_map (λ word. word) words

-- an address, and digits in one word or in several
abbrev pub store_of : List (List ℕ) → Option Event
store_of [] = None
store_of (address ∷ words) =
    option_and_then (λ at. option_map (λ bytes. event.Store at (record { items = bytes }))
    (stored_bytes_of (joined words))) (storage_address_of address)

-- a storage address and a key
abbrev pub set_key_of : List ℕ → List ℕ → Option Event
set_key_of address key = option_and_then (λ at. option_map (event.Key at) (key_of key)) (storage_address_of address)

-- a storage address and a number of bytes
abbrev pub show_of : List ℕ → List ℕ → Option Event
show_of address count = option_and_then (λ at. option_map (event.Show at) (count_within 1 32 count))
    (storage_address_of address)

-- the event of this name and these operands
abbrev pub event_of : EventName → List (List ℕ) → Option Event
event_of name.Sio words = option_map event.Sio (device_address_in words)
event_of name.Tio words = option_map event.Tio (device_address_in words)
event_of name.Hio words = option_map event.Hio (device_address_in words)
event_of name.Tch words = without_operand words event.Tch
event_of name.Step words = option_map event.Step (units_in words)
event_of name.Run words = option_map event.Run (run_units_in words)
event_of name.Arrive words = option_map event.Arrive (device_address_in words)
event_of name.Int words = without_operand words event.Interrupt
event_of name.Reset words = without_operand words event.Reset
event_of name.Store words = store_of words
event_of name.Key words = two_of set_key_of words
event_of name.Show words = two_of show_of words

-- an event that its operands spell; or they are wrong
abbrev pub spelled : Option Event → Result (Option Event) LineFault
spelled (Some e) = Ok (Some e)
spelled None = Err line.Operand

-- an event that its name and operands spell; or there is none of this name
abbrev pub named : Option EventName → List (List ℕ) → Result (Option Event) LineFault
named None operands = Err line.Unknown
named (Some n) operands = spelled (event_of n operands)

-- a comment begins with an asterisk
abbrev pub is_comment : List ℕ → Bool
is_comment [] = false
is_comment (byte ∷ word) = byte == 42

-- a line without words, and a comment, spell no event
abbrev pub words_read : List (List ℕ) → Result (Option Event) LineFault
words_read [] = Ok None
words_read (first ∷ operands) = if is_comment first then Ok None else named (name_of first) operands

-- the event of a line, if it has one, or what is wrong with it
abbrev pub line_read : List ℕ → Result (Option Event) LineFault
line_read text =
    let body = without_return text in
    if nat_lt 512 (length body) then Err line.TooLong else words_read (words_of body)

-- Decks.

-- what is wrong with a deck: the line with this number
abbrev pub fault_at : ℕ → LineFault → DeckFault
fault_at number line.TooLong = fault.LineTooLong number
fault_at number line.Unknown = fault.Unknown number
fault_at number line.Operand = fault.Operand number

-- the events so far, and that of one line more
abbrev pub appended : List Event → Option Event → List Event
appended events None = events
appended events (Some e) = events ++ e ∷ []

-- what comes behind a line, where nothing is wrong with it
abbrev pub on_line : (number : ℕ) → Result (Option Event) LineFault → (Option Event → Result (List Event) DeckFault)
    → Result (List Event) DeckFault
on_line number (Ok e) behind = behind e
on_line number (Err f) behind = Err (fault_at number f)

-- these events, and behind them those of lines that are numbered from here on; or the first line that is faulty
abbrev pub events_behind : List Event → (number : ℕ) → List (List ℕ) → Result (List Event) DeckFault
events_behind events number [] = Ok events
events_behind events number (text ∷ lines) =
    on_line number (line_read text) (λ e. events_behind (appended events e) (number + 1) lines)

-- small letters are read as capitals
abbrev pub events_of : List ℕ → Result (List Event) DeckFault
events_of text = events_behind [] 1 (lines_of (map to_ascii_uppercase text))

-- how many events a deck has; or its first line that is faulty
abbrev pub count_in : Result (List Event) DeckFault → Result ℕ DeckFault
count_in (Ok events) = Ok (length events)
count_in (Err f) = Err f

-- the event of a line that spells one
abbrev pub event_in : Result (Option Event) LineFault → List Event
event_in (Ok (Some e)) = e ∷ []
event_in spelled = []

-- the events that lines spell, each by itself: those of a deck, where no line is faulty
abbrev pub events_in_lines : List (List ℕ) → List Event
events_in_lines lines = flat_map (λ text. event_in (line_read text)) lines

-- A deck was read so. Where memory ran out, this says nothing.
abbrev pub IsRead : Result (List Event) DeckFault → Result (Vec Event) DeckFault → Type 0
IsRead deck (Ok events) = deck ≡ Ok events.items
IsRead deck (Err fault.OutOfMemory) = Unit {0}
IsRead deck (Err f) = deck ≡ Err f
