-- A text in words, and the deck that it is.
use Rattle.std.specs.Prelude.{◌≡◌, ◌⊎◌, ℕ, ◌+◌, List, [], ◌∷◌, length, nat_lt, Result, Ok, Err, if◌then◌else◌}
use Rattle.std.specs.Global.{Vec}
use Rattle.s360_deck.specs.Deck.{lines_of, without_return}
use Rattle.s360_assembler.specs.declared.fault.AssemblyFault.{AssemblyFault}
use Rattle.s360_assembler.specs.declared.fault.AssemblyFault.TheVariants as fault
use Rattle.s360_assembler.specs.declared.fault.Cause.{Cause}
use Rattle.s360_assembler.specs.declared.fault.Cause.TheVariants as cause
use Rattle.s360_assembler.specs.declared.fault.Mistake.{Mistake}
use Rattle.s360_assembler.specs.declared.files.LoadableFile.{LoadableFile}
use Rattle.s360_assembler.specs.declared.fields.Quoting.TheVariants.{Outside}
use Rattle.s360_assembler.specs.declared.symbols.Symbol.{Symbol}
use Rattle.s360_assembler.specs.Fields.{raised, operands_at}
use Rattle.s360_assembler.specs.Statements.{statement_of}
use Rattle.s360_assembler.specs.Symbols.{location_behind, at_byte, and_then, noted}
use Rattle.s360_assembler.specs.Parts.{DeckState, closed, on_value, part_of, with_part}

-- the fault of a line
abbrev pub fault_at : (line column : ℕ) → Cause → AssemblyFault
fault_at line column cause.OutOfMemory = fault.OutOfMemory
fault_at line column cause.TooLong = fault.TooLong
fault_at line column why = fault.At line column why

-- the fault of a line for what is wrong in it
abbrev pub told : (line : ℕ) → Mistake → AssemblyFault
told line m = fault_at line m.column m.cause

-- what is made of a line goes on; or it is the fault
abbrev pub on_line : {T U : Type 0} → (line : ℕ) → Result T Mistake → (T → Result U AssemblyFault) → Result U AssemblyFault
on_line line (Ok value) behind = behind value
on_line line (Err m) behind = Err (told line m)

-- The first pass: symbols.

-- the symbols behind these lines, whose first one is at this location
abbrev pub symbols_behind : List LoadableFile → List Symbol → (here number : ℕ) → List (List ℕ) → Result (List Symbol) AssemblyFault
symbols_behind files symbols here number [] = Ok symbols
symbols_behind files symbols here number (text ∷ lines) =
    on_line number (noted files symbols here (without_return text)) (λ more. symbols_behind files more.0 more.1 (number + 1) lines)

-- The second pass: the deck.

-- a deck has at most 1,048,576 bytes
abbrev pub in_length : DeckState → Result DeckState Cause
in_length d = if nat_lt 1048576 (length d.text) then Err cause.TooLong else Ok d

-- what a line makes of a deck, and the location behind it
abbrev pub written : List LoadableFile → List Symbol → DeckState → (here : ℕ) → (line : List ℕ) → Result (DeckState × ℕ) Mistake
written files symbols d here line =
    and_then (statement_of files line) (λ s.
    and_then (at_byte (operands_at line) (location_behind symbols here s)) (λ next.
    and_then (at_byte (operands_at line) (on_value (part_of symbols here line s) (λ p. on_value (with_part files d p) in_length))) (λ more.
    Ok (more, next))))

-- a line was written so; where memory ran out, this says nothing
abbrev pub Writes : Result ℕ Mistake → List LoadableFile → List Symbol → (before now : DeckState) → (here : ℕ) → (line : List ℕ) → Type 0
Writes (Ok next) files symbols before now here line = written files symbols before here line ≡ Ok (now, next)
Writes (Err m) files symbols before now here line = (m.cause ≡ cause.OutOfMemory) ⊎ (written files symbols before here line ≡ Err m)

-- the deck's text behind these lines, whose first one is at this location
abbrev pub deck_behind : List LoadableFile → List Symbol → DeckState → (here number : ℕ) → List (List ℕ) → Result (List ℕ) AssemblyFault
deck_behind files symbols d here number [] = Ok (closed d).text
deck_behind files symbols d here number (text ∷ lines) =
    on_line number (written files symbols d here (without_return text)) (λ more. deck_behind files symbols more.0 more.1 (number + 1) lines)

-- Both.

-- the deck of no lines
abbrev pub new_deck : DeckState
new_deck = record { text = []; stored = 0; next = 0 }

-- the deck of these lines, where their symbols are known; or the fault of these
abbrev pub on_symbols : List LoadableFile → List (List ℕ) → Result (List Symbol) AssemblyFault → Result (List ℕ) AssemblyFault
on_symbols files lines (Ok symbols) = deck_behind files symbols new_deck 0 1 lines
on_symbols files lines (Err f) = Err f

-- so has one with its last line done
abbrev pub of_deck_length : Result (List ℕ) AssemblyFault → Result (List ℕ) AssemblyFault
of_deck_length (Ok deck) = if nat_lt 1048576 (length deck) then Err fault.TooLong else Ok deck
of_deck_length (Err f) = Err f

-- the deck of these lines
abbrev pub assembled_lines : List LoadableFile → List (List ℕ) → Result (List ℕ) AssemblyFault
assembled_lines files lines = of_deck_length (on_symbols files lines (symbols_behind files [] 0 1 lines))

-- The deck of a text and of the files that it may load: the first fault of its symbols, or else the first fault of its deck, or the deck.
abbrev pub assembled : List LoadableFile → (text : List ℕ) → Result (List ℕ) AssemblyFault
assembled files text = assembled_lines files (lines_of (raised Outside text))

-- A text was assembled so. Where memory ran out, this says nothing.
abbrev pub IsAssembled : Result (List ℕ) AssemblyFault → Result (Vec ℕ) AssemblyFault → Type 0
IsAssembled deck (Ok text) = deck ≡ Ok text.items
IsAssembled deck (Err f) = (f ≡ fault.OutOfMemory) ⊎ (deck ≡ Err f)

-- the same of the symbols of a text, and of its deck's text
abbrev pub HasSymbols : Result (List Symbol) AssemblyFault → Result (Vec Symbol) AssemblyFault → Type 0
HasSymbols symbols (Ok found) = symbols ≡ Ok found.items
HasSymbols symbols (Err f) = (f ≡ fault.OutOfMemory) ⊎ (symbols ≡ Err f)
