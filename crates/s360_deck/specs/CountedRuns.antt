-- A deck that was run between a reader and a writer whose failures are counted: what was read, and what its text left.
use Rattle.std.specs.Prelude.{◌≤◌, ◌<◌, ◌⊎◌, ℕ, List, length, Result, Ok, Err}
use Rattle.std.specs.Io.KnownBytes.{IsAtEnd}
use Rattle.counted_io.specs.Streams.{Stream, Gives, NoneFailed, OneFailed}
use Rattle.s360_channel.specs.Channel.{ChannelState}
use Rattle.s360_deck.specs.declared.fault.DeckFault.TheVariants.{OutOfMemory}
use Rattle.s360_deck.specs.declared.fault.ReadFault.{ReadFault}
use Rattle.s360_deck.specs.declared.fault.ReadFault.TheVariants as reading
use Rattle.s360_deck.specs.declared.runs.RunFault.{RunFault}
use Rattle.s360_deck.specs.declared.runs.RunFault.TheVariants.{Deck, Read}
use Rattle.s360_deck.specs.Texts.{RunsText}

-- all that a reader had, which is no more than a deck may have; no read failed
pub record ReadsWhole (before after : Stream) (text : List ℕ) : Type 0 where
  pub given : Gives before after text
  pub whole : IsAtEnd after.known
  pub size : length text ≤ 1048576
  pub sound : NoneFailed before after

-- a reader gave more than a deck may have, by one read of at most 4,096 bytes; no read failed
pub record PassesDeck (before after : Stream) : Type 0 where
  pub text : List ℕ
  pub given : Gives before after text
  pub size : 1048576 < length text
  pub one_read : length text ≤ 1052672
  pub sound : NoneFailed before after

-- a read failed behind these first bytes
pub record FailsToRead (before after : Stream) : Type 0 where
  pub text : List ℕ
  pub given : Gives before after text
  pub size : length text ≤ 1048576
  pub failed : OneFailed before after

-- there was no memory for these bytes, or for what they spell; no read failed
pub record FindsNoRoom (before after : Stream) : Type 0 where
  pub text : List ℕ
  pub given : Gives before after text
  pub size : length text ≤ 1048576
  pub sound : NoneFailed before after

-- why a text was not read whole
abbrev pub ReadsFaultily : ReadFault → (before after : Stream) → Type 0
ReadsFaultily reading.Failed before after = FailsToRead before after
ReadsFaultily reading.TooLong before after = PassesDeck before after
ReadsFaultily reading.OutOfMemory before after = FindsNoRoom before after

-- why bytes were not added: the text would pass what a deck may have, or there is no memory
abbrev pub NotAdded : ReadFault → (text : List ℕ) → Type 0
NotAdded reading.Failed text = ⊥
NotAdded reading.TooLong text = 1048576 < length text
NotAdded reading.OutOfMemory text = length text ≤ 1048576

-- what the fault of a text that was not read is to a run
abbrev pub run_fault : ReadFault → RunFault
run_fault reading.Failed = Read
run_fault reading.TooLong = Read
run_fault reading.OutOfMemory = Deck OutOfMemory

-- A text was read whole, and this is what it left.
pub record RunsWhole (result : Result (Unit {0}) RunFault) (before after : Stream) (old new : ChannelState)
    (written_before written : Stream) : Type 0 where
  pub text : List ℕ
  pub is_read : ReadsWhole before after text
  pub runs : RunsText result text old new written_before written

-- What a deck that was run leaves, by what is answered. A read fault comes exactly where a read failed or the text is longer than a
-- deck may be, and a write fault exactly where a write or the last flush failed.
abbrev pub CountedRuns : Result (Unit {0}) RunFault → (before after : Stream) → (old new : ChannelState)
    → (written_before written : Stream) → Type 0
CountedRuns (Err Read) before after old new written_before written = FailsToRead before after ⊎ PassesDeck before after
CountedRuns (Err (Deck OutOfMemory)) before after old new written_before written = FindsNoRoom before after
CountedRuns result before after old new written_before written = RunsWhole result before after old new written_before
    written
