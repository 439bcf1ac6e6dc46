-- The lines of a text, taken off one after another.
use Rattle.std.proofs.Common.{ℕ, ◌+◌, ◌<◌, ◌≤◌, ◌≡◌, ◌==◌, List, [], ◌∷◌, ◌++◌, Bool, true, false, Option, Some, None, Result, Ok, Err}
use Rattle.std.proofs.Common.{length, append-nil, append_assoc, length-append, length-drop, refl, add-one, sym, ap, subst, map, arith, ◌∙◌}
use mir.Val.{bool_byte}
use Rattle.std.specs.Char.{to_ascii_uppercase}
use Rattle.std.specs.Option.{is_some}
use Rattle.std.proofs.Math.Numerals.{one-add}
use Rattle.std.specs.List.{before_first, after_first, position_or_len}
use Rattle.s360_laws.specs.declared.events.Event.{Event}
use Rattle.s360_deck.specs.declared.fault.DeckFault.{DeckFault}
use Rattle.s360_deck.specs.declared.fault.DeckFault.TheVariants as told
use Rattle.s360_deck.specs.declared.spelling.LineFault.{LineFault}
use Rattle.s360_deck.specs.Deck.{lines_of, line_read, on_line, events_behind, appended, fault_at, IsRead, events_of}
use Rattle.s360_deck.specs.Deck.{events_in_lines, count_in}

first_of : (byte : ℕ) (text : List ℕ) (v : Bool) → (byte == 10) ≡ v
    → lines_of (byte ∷ text) ≡ before_first (λ b. b == 10) (byte ∷ text) ∷ lines_of (after_first (λ b. b == 10) (byte ∷ text))
first_of byte text true is = rw is refl
first_of byte [] false is = rw is refl
first_of byte (next ∷ text) false is = rw (is, first_of next text (next == 10) refl) (simp (one-add, add-one) refl)

-- the first line, and those behind it
pub first_line : (text : List ℕ) → 0 < length text → lines_of text ≡ before_first (λ b. b == 10) text ∷ lines_of (after_first (λ b. b ==
    10) text)
first_line [] some = absurd (omega arith)
first_line (byte ∷ text) some = first_of byte text (byte == 10) refl

-- the same of what stands before and behind the first line feed
pub first_of_two : (text line behind : List ℕ) → line ≡ before_first (λ b. b == 10) text → behind ≡ after_first (λ b. b == 10) text
    → 0 < length text → lines_of text ≡ line ∷ lines_of behind
first_of_two text line behind first rest some = rw (first, rest) (first_line text some)

-- what stands behind the first line is shorter
pub behind_shorter : (text : List ℕ) → 0 < length text → length (after_first (λ b. b == 10) text) < length text
behind_shorter text some = omega (arith, length-drop (position_or_len (λ b. b == 10) text + 1) text)

-- a text that is not empty, its first line, and what stands behind that
pub record HasFirstLine (text line behind : List ℕ) : Type 0 where
  pub some : 0 < length text
  pub first : line ≡ before_first (λ b. b == 10) text
  pub rest : behind ≡ after_first (λ b. b == 10) text

-- the events of a text are those of its first line, and of what stands behind it
first_read : (events : List Event) (number : ℕ) (text line behind : List ℕ) (all : Result (List Event) DeckFault)
    → HasFirstLine text line behind → events_behind events number (lines_of text) ≡ all
    → on_line number (line_read line) (λ e. events_behind (appended events e) (number + 1) (lines_of behind)) ≡ all
first_read events number text line behind all has is = rw (first_line text has.some, ← has.first, ← has.rest) at is

-- a line that spells an event or none
pub next_read : (events : List Event) (event : Option Event) (number : ℕ) (text line behind : List ℕ) (all : Result (List Event) DeckFault)
    → HasFirstLine text line behind → Ok event ≡ line_read line → events_behind events number (lines_of text) ≡ all
    → events_behind (appended events event) (number + 1) (lines_of behind) ≡ all
next_read events event number text line behind all has e is = rw (← e) at (first_read events number text line behind all has is)

abbrev faulted : LineFault → Result (Option Event) LineFault
faulted f = Err f

-- a faulty line
pub faulty_read : (events : List Event) (f : LineFault) (told : DeckFault) (number : ℕ) (text line behind : List ℕ)
    (all : Result (List Event) DeckFault) → HasFirstLine text line behind → told ≡ fault_at number f → faulted f ≡ line_read line
    → events_behind events number (lines_of text) ≡ all → all ≡ Err told
faulty_read events f told number text line behind all has is_told e is =
    rw is_told (sym (rw (← e) at (first_read events number text line behind all has is)))

-- nothing more is told of a deck where its first faulty line is known
pub is_read_faultily : (fault : DeckFault) (deck : Result (List Event) DeckFault) → deck ≡ Err fault → IsRead deck (Err fault)
is_read_faultily told.OutOfMemory deck is = tt
is_read_faultily (told.Unknown number) deck is = is
is_read_faultily (told.Operand number) deck is = is
is_read_faultily (told.LineTooLong number) deck is = is

-- The events of lines, each by itself.

abbrev Read : Type 0
Read = Result (Option Event) LineFault

one_line : (events : List Event) (number : ℕ) (text : List ℕ) (lines : List (List ℕ)) (all : List Event)
    → ((behind : List Event) → events_behind behind (number + 1) lines ≡ Ok all → all ≡ behind ++ events_in_lines lines)
    → (r : Read) → line_read text ≡ r → on_line number r (λ e. events_behind (appended events e) (number + 1) lines) ≡ Ok all
    → all ≡ events ++ events_in_lines (text ∷ lines)
one_line events number text lines all later (Ok None) e is = rw e (later events is)
one_line events number text lines all later (Ok (Some event)) e is =
    rw e (later (events ++ event ∷ []) is ∙ append_assoc events (event ∷ []) (events_in_lines lines))
one_line events number text lines all later (Err f) e is = absurd (cc)

-- the events of a deck are those that its lines spell, behind those so far
pub spelled_alone : (events : List Event) (number : ℕ) (lines : List (List ℕ)) (all : List Event)
    → events_behind events number lines ≡ Ok all → all ≡ events ++ events_in_lines lines
spelled_alone events number [] all is = rw (append-nil events) (cc)
spelled_alone events number (text ∷ lines) all is =
    one_line events number text lines all (λ behind. spelled_alone behind (number + 1) lines all) (line_read text) refl is

-- one line more, whose event is counted if it has one
pub one_counted : (events : List Event) (event : Option Event) (count more : ℕ) → length events ≡ count → more ≡ bool_byte (is_some event)
    → length (appended events event) ≡ count + more
one_counted events None count more h is = omega (arith, h, is)
one_counted events (Some event) count more h is = omega (arith, h, is, length-append events (event ∷ []))

pub one_at_most : (event : Option Event) (more : ℕ) → more ≡ bool_byte (is_some event) → more ≤ 1
one_at_most None more is = omega (arith, is)
one_at_most (Some event) more is = omega (arith, is)

-- a deck whose events were counted: no line is faulty
is_deck : (lines : List (List ℕ)) (count : ℕ) (deck : Result (List Event) DeckFault) → events_behind [] 1 lines ≡ deck
    → Ok count ≡ count_in deck
    → (deck ≡ Ok (events_in_lines lines)) × (length (events_in_lines lines) ≡ count)
is_deck lines count (Ok all) e is =
    let same = spelled_alone [] 1 lines all e in
    (ap Ok same, ap length (sym same) ∙ cc)
is_deck lines count (Err f) e is = absurd (cc)

pub is_counted_deck : (text capitals seen : List ℕ) (count : ℕ) → seen ≡ capitals → capitals ≡ map to_ascii_uppercase text
    → Ok count ≡ count_in (events_behind [] 1 (lines_of seen))
    → (events_of text ≡ Ok (events_in_lines (lines_of capitals))) × (length (events_in_lines (lines_of capitals)) ≡ count)
is_counted_deck text capitals seen count is from counted =
    let deck = is_deck (lines_of capitals) count _ refl
    (subst (λ (t : List ℕ). Ok count ≡ count_in (events_behind [] 1 (lines_of t))) is counted) in (
      subst (λ (t : List ℕ). events_behind [] 1 (lines_of t) ≡ Ok (events_in_lines (lines_of capitals))) from deck.0,
      deck.1,
    )
