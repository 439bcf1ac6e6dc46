-- What statements make of a deck.
use Rattle.std.specs.Prelude.{◌≡◌, ◌⊎◌, ℕ, zero, suc, ◌+◌, ◌/◌, List, [], ◌∷◌, ◌++◌, length, take, drop, ◌&&◌, ◌==◌, nat_lt, nat_le, Result, Ok, Err, is_ok}
use Rattle.std.specs.Prelude.{codes, if◌then◌else◌}
use Rattle.byteorder.specs.Endian.{big_bytes}
use Rattle.counted_io.specs.Text.{hexadecimal, bytes_text}
use Rattle.s360_deck.specs.Deck.{events_of}
use Rattle.s360_assembler.specs.declared.deck.Deck.{Deck}
use Rattle.s360_assembler.specs.declared.files.LoadableFile.{LoadableFile}
use Rattle.s360_assembler.specs.declared.fault.Cause.{Cause}
use Rattle.s360_assembler.specs.declared.fault.Cause.TheVariants as cause
use Rattle.s360_assembler.specs.declared.statements.Statement.{Statement}
use Rattle.s360_assembler.specs.declared.statements.Statement.TheVariants.{Origin, Constant, Pointer, Word, Load, Event, EventAt}
use Rattle.s360_assembler.specs.declared.symbols.Symbol.{Symbol}
use Rattle.s360_assembler.specs.declared.parts.DeckPart.{DeckPart}
use Rattle.s360_assembler.specs.declared.parts.DeckPart.TheVariants as part
use Rattle.s360_assembler.specs.Fields.{operation_of, operation_at, remark_of}
use Rattle.s360_assembler.specs.Files.{bytes_at}
use Rattle.s360_assembler.specs.Symbols.{value_of, place_of}

-- the eight bytes of a channel command word, of which the sixth is zero
abbrev pub word_bytes : (code address flags count : ℕ) → List ℕ
word_bytes code address flags count = (code ∷ big_bytes 3 address) ++ (flags ∷ 0 ∷ big_bytes 2 count)

-- a value that is known goes on
abbrev pub on_value : {T U : Type 0} → Result T Cause → (T → Result U Cause) → Result U Cause
on_value (Ok value) behind = behind value
on_value (Err why) behind = Err why

-- the bytes that a statement at this place puts into storage
abbrev pub stored_of : List Symbol → (here : ℕ) → Statement → Result (List ℕ) Cause
stored_of symbols here (Constant boundary bytes) = Ok bytes.items
stored_of symbols here (Pointer address) = on_value (value_of symbols here address) (λ value. Ok (big_bytes 4 value))
stored_of symbols here (Word w) =
    on_value (value_of symbols here w.address) (λ value. Ok (word_bytes w.code value w.flags w.count))
stored_of symbols here s = Ok []

-- a deck so far: its text; and of a STORE whose line is not done, how many bytes it has, and where it goes on
pub record DeckState : Type 0 where
  pub text : List ℕ
  pub stored : ℕ
  pub next : ℕ

-- no STORE is left undone
abbrev pub closed : DeckState → DeckState
closed d = if d.stored == 0 then d else record { text = d.text ++ 10 ∷ []; stored = 0; next = d.next }

-- bytes in storage: behind those of the STORE before, where these end there and are not more than 128 together; or in a STORE of their own
abbrev pub with_bytes : DeckState → (at : ℕ) → (bytes : List ℕ) → DeckState
with_bytes d at bytes =
    if length bytes == 0 then d
    else (if nat_lt 0 d.stored && (at == d.next && nat_le (d.stored + length bytes) 128)
    then record { text = d.text ++ codes " " ++ bytes_text bytes; stored = d.stored + length bytes; next = at + length bytes }
    else record {
      text = (closed d).text ++ codes "STORE " ++ hexadecimal 6 at ++ codes " " ++ bytes_text bytes;
      stored = length bytes;
      next = at + length bytes;
    })

-- bytes in storage, 128 at a time, in so many pieces
abbrev pub with_pieces : (pieces : ℕ) → DeckState → (at : ℕ) → (bytes : List ℕ) → DeckState
with_pieces zero d at bytes = d
with_pieces (suc pieces) d at bytes = with_pieces pieces (with_bytes d at (take 128 bytes)) (at + 128) (drop 128 bytes)

-- the bytes of a file in storage, of which none is past FFFFFF
abbrev pub with_file : DeckState → (at : ℕ) → (bytes : List ℕ) → Result DeckState Cause
with_file d at bytes =
    if nat_le (at + length bytes) 16777216 then Ok (with_pieces ((length bytes + 127) / 128) d at bytes) else Err cause.Outside

-- the line of an event more
abbrev pub with_line : DeckState → List ℕ → DeckState
with_line d line = record { text = (closed d).text ++ line ++ 10 ∷ []; stored = 0; next = d.next }

-- What a statement makes of a deck: an event stands there as it is written, from its name on, and an address of this language in
-- six hexadecimal digits; an origin ends the STORE before; a file puts its bytes into storage; and so does all else that has some.
abbrev pub part_of : List Symbol → (here : ℕ) → (line : List ℕ) → Statement → Result DeckPart Cause
part_of symbols here line Event = Ok (part.Line (record { items = drop (operation_at line) line }))
part_of symbols here line (EventAt address) =
    on_value (value_of symbols here address) (λ value. Ok (part.Line (record {
      items = operation_of line ++ codes " " ++ hexadecimal 6 value ++ remark_of line;
    })))
part_of symbols here line (Origin address) = Ok part.End
part_of symbols here line (Load place size) = Ok (part.File here place)
part_of symbols here line s =
    on_value (stored_of symbols (place_of here s) s) (λ bytes. Ok (part.Bytes (place_of here s) (record { items = bytes })))

-- an event's line must be one of a deck
abbrev pub with_event : DeckState → List ℕ → Result DeckState Cause
with_event d line = if is_ok (events_of line) then Ok (with_line d line) else Err cause.Event

-- what a statement makes of a deck more
abbrev pub with_part : List LoadableFile → DeckState → DeckPart → Result DeckState Cause
with_part files d (part.Line line) = with_event d line.items
with_part files d part.End = Ok (closed d)
with_part files d (part.Bytes at bytes) = Ok (with_bytes d at bytes.items)
with_part files d (part.File at place) = with_file d at (bytes_at files place)

-- a deck in the making is seen as this
abbrev pub seen : Deck → DeckState
seen d = record { text = d.text.items; stored = d.stored; next = d.next }

-- a deck was changed so; where memory ran out, this says nothing
abbrev pub Makes : Result (Unit {0}) Cause → (made : Result DeckState Cause) → (now : DeckState) → Type 0
Makes (Ok done) made now = made ≡ Ok now
Makes (Err why) made now = (why ≡ cause.OutOfMemory) ⊎ (made ≡ Err why)
