-- A deck in words.
use Rattle.std.specs.Prelude.{◌≡◌, List, [], ℕ, Result, Ok, Err}
use Rattle.std.specs.Global.{Vec}
use Rattle.s360_laws.specs.declared.events.Event.{Event}
use Rattle.s360_deck.specs.Deck.{events_of}
use Rattle.s360_assembler.specs.Assembled.{assembled}
use Rattle.s360_disassembler.specs.declared.words.DisassemblyFault.{DisassemblyFault}
use Rattle.s360_disassembler.specs.declared.words.DisassemblyFault.TheVariants as fault

-- assembled, these words are a deck of these events
pub record AreWordsOfEvents (events : List Event) (words : List ℕ) : Type 0 where
  pub deck : List ℕ
  pub is_deck : assembled [] words ≡ Ok deck
  pub are_events : events_of deck ≡ Ok events

-- The words of a deck: assembled, they are a deck of the same events.
abbrev pub AreWordsOf : (deck words : List ℕ) → Type 0
AreWordsOf deck words = (events : List Event) × (events_of deck ≡ Ok events) × AreWordsOfEvents events words

-- Why a deck is not put into words: it is none, and this is its first fault. Where memory ran out, or the words that were found are not
-- the deck's, nothing is said.
abbrev pub NotDisassembled : DisassemblyFault → (deck : List ℕ) → Type 0
NotDisassembled (fault.Deck f) deck = events_of deck ≡ Err f
NotDisassembled f deck = Unit {0}

-- A deck was put into words, or was not for this reason.
abbrev pub Disassembles : (deck : List ℕ) → Result (Vec ℕ) DisassemblyFault → Type 0
Disassembles deck (Ok words) = AreWordsOf deck words.items
Disassembles deck (Err f) = NotDisassembled f deck
