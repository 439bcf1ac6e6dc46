-- A deck that was run: what was read, what happened at the channel, and what was written.
use Rattle.std.specs.Prelude.{◌≡◌, ◌≤◌, ◌++◌, ℕ, List, length, Option, Result, Ok, Err}
use Rattle.std.specs.Global.{Vec}
use Rattle.std.specs.Io.KnownBytes.{Appends, Consumes, IsAtEnd}
use Rattle.s360_laws.specs.declared.events.Event.{Event}
use Rattle.s360_laws.specs.declared.answers.Answer.{Answer}
use Rattle.s360_channel.specs.Channel.{ChannelState}
use Rattle.s360_deck.specs.declared.fault.DeckFault.{DeckFault}
use Rattle.s360_deck.specs.declared.fault.DeckFault.TheVariants.{OutOfMemory}
use Rattle.s360_deck.specs.declared.runs.RunFault.{RunFault}
use Rattle.s360_deck.specs.declared.runs.RunFault.TheVariants.{Deck, Read, Write}
use Rattle.s360_deck.specs.Deck.{events_of, IsRead}
use Rattle.s360_deck.specs.Lines.{lines_text}
use Rattle.s360_deck.specs.Texts.{HasRun}

-- all that a reader had, which is no more than a deck may have
pub record ReadsWhole (before after : Option (List ℕ)) (text : List ℕ) : Type 0 where
  pub read : Consumes before after text
  pub whole : IsAtEnd after
  pub size : length text ≤ 1048576

-- the first bytes that a reader had were read, no more than a deck may have and one read of at most 4,096 bytes
pub record ReadsFront (before after : Option (List ℕ)) : Type 0 where
  pub text : List ℕ
  pub read : Consumes before after text
  pub size : length text ≤ 1052672

-- a fault before a text was read whole
abbrev pub IsReadFault : RunFault → Type 0
IsReadFault Read = Unit {0}
IsReadFault (Deck OutOfMemory) = Unit {0}
IsReadFault fault = ⊥

-- A text is a deck, and spells these events; or it is none, or there is no memory.
abbrev pub Spells : Result (Vec Event) RunFault → (text : List ℕ) → Type 0
Spells (Ok events) text = events_of text ≡ Ok events.items
Spells (Err (Deck fault)) text = IsRead (events_of text) (Err fault)
Spells (Err fault) text = ⊥

-- only the first bytes of these are written
abbrev pub AppendsFront : (before after : Option (List ℕ)) → (bytes : List ℕ) → Type 0
AppendsFront before after bytes = (front rest : List ℕ) × (bytes ≡ front ++ rest) × Appends before after front

-- All bytes were written; or there is a write fault, and perhaps not all were written, but the first ones.
abbrev pub WritesFront : Result (Unit {0}) RunFault → (before after : Option (List ℕ)) → (bytes : List ℕ) → Type 0
WritesFront (Ok done) before after bytes = Appends before after bytes
WritesFront (Err fault) before after bytes = (fault ≡ Write) × AppendsFront before after bytes

-- All events of a text that was read whole have happened, and the lines of their answers are written.
pub record HasWritten (before after : Option (List ℕ)) (old new : ChannelState)
    (written_before written : Option (List ℕ)) : Type 0 where
  pub text : List ℕ
  pub is_read : ReadsWhole before after text
  pub answers : List Answer
  pub has_run : HasRun text old new answers
  pub lines : Appends written_before written (lines_text answers)

-- All events have happened, and perhaps not all bytes of the lines are written, but the first ones.
pub record HasBegunToWrite (before after : Option (List ℕ)) (old new : ChannelState)
    (written_before written : Option (List ℕ)) : Type 0 where
  pub text : List ℕ
  pub is_read : ReadsWhole before after text
  pub answers : List Answer
  pub has_run : HasRun text old new answers
  pub lines : AppendsFront written_before written (lines_text answers)

-- A text was read whole, and this is its first faulty line.
pub record IsNoDeck (fault : DeckFault) (before after : Option (List ℕ)) : Type 0 where
  pub text : List ℕ
  pub is_read : ReadsWhole before after text
  pub faulty : events_of text ≡ Err fault

-- What a deck that was run leaves, by what is answered. With a read fault, and with want of memory, the first bytes are read.
abbrev pub Runs : Result (Unit {0}) RunFault → (before after : Option (List ℕ)) → (old new : ChannelState)
    → (written_before written : Option (List ℕ)) → Type 0
Runs (Ok done) before after old new written_before written = HasWritten before after old new written_before written
Runs (Err Write) before after old new written_before written = HasBegunToWrite before after old new written_before
    written
Runs (Err Read) before after old new written_before written = ReadsFront before after
Runs (Err (Deck OutOfMemory)) before after old new written_before written = ReadsFront before after
Runs (Err (Deck fault)) before after old new written_before written = IsNoDeck fault before after

-- With every fault but that of a write, something stays as it was.
abbrev pub StaysUnlessRun : {A : Type 0} → Result (Unit {0}) RunFault → (old new : A) → Type 0
StaysUnlessRun (Ok done) old new = Unit {0}
StaysUnlessRun (Err Write) old new = Unit {0}
StaysUnlessRun (Err fault) old new = new ≡ old
