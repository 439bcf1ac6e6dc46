-- A deck that is run from its text: what happened at the channel, and what was written.
use Rattle.std.specs.Prelude.{◌≡◌, ◌≤◌, ◌<◌, ℕ, List, length, map, Result, Ok, Err}
use Rattle.counted_io.specs.Streams.{Stream, Takes, TakesFront, NoneFailed, OneFailed}
use Rattle.s360_laws.specs.Machine.{Machine}
use Rattle.s360_laws.specs.Seen.{event_seen, answer_seen}
use Rattle.s360_laws.specs.Answered.{AllAnswered}
use Rattle.s360_laws.specs.declared.events.Event.{Event}
use Rattle.s360_laws.specs.declared.answers.Answer.{Answer}
use Rattle.s360_channel.specs.Channel.{ChannelState, StandsFor}
use Rattle.s360_channel.specs.Lists.{Follows}
use Rattle.s360_deck.specs.declared.fault.DeckFault.TheVariants.{OutOfMemory}
use Rattle.s360_deck.specs.declared.runs.RunFault.{RunFault}
use Rattle.s360_deck.specs.declared.runs.RunFault.TheVariants.{Deck, Read, Write}
use Rattle.s360_deck.specs.Deck.{events_of}
use Rattle.s360_deck.specs.Lines.{lines_text}

-- A text is a deck, and its events have happened at the channel, with these answers. The headline holds of the list.
pub record HasRun (text : List ℕ) (old new : ChannelState) (answers : List Answer) : Type 0 where
  pub size : length text ≤ 1048576
  pub events : List Event
  pub are_these : events_of text ≡ Ok events
  pub answered : AllAnswered events answers
  pub follows : (m : Machine) → StandsFor old m → Follows m (map event_seen events) (map answer_seen answers) old new

-- All events have happened, and the lines of their answers are written; no write failed, and no flush.
pub record HasWritten (text : List ℕ) (old new : ChannelState) (written_before written : Stream) : Type 0 where
  pub answers : List Answer
  pub has_run : HasRun text old new answers
  pub lines : Takes written_before written (lines_text answers)
  pub sound : NoneFailed written_before written

-- All events have happened, and a write or the last flush failed: perhaps not all bytes of the lines are written, but the first ones.
pub record HasBegunToWrite (text : List ℕ) (old new : ChannelState) (written_before written : Stream) : Type 0 where
  pub answers : List Answer
  pub has_run : HasRun text old new answers
  pub lines : TakesFront written_before written (lines_text answers)
  pub failed : OneFailed written_before written

-- What the deck leaves that a text is, by what is answered. A read fault comes exactly where the text is longer than a deck may be, and
-- a write fault exactly where a write or the last flush failed; any other fault is the first faulty line, or want of memory.
abbrev pub RunsText : Result (Unit {0}) RunFault → (text : List ℕ) → (old new : ChannelState)
    → (written_before written : Stream) → Type 0
RunsText (Ok done) text old new written_before written = HasWritten text old new written_before written
RunsText (Err Write) text old new written_before written = HasBegunToWrite text old new written_before written
RunsText (Err Read) text old new written_before written = 1048576 < length text
RunsText (Err (Deck OutOfMemory)) text old new written_before written = length text ≤ 1048576
RunsText (Err (Deck fault)) text old new written_before written = (length text ≤ 1048576) × (events_of text ≡ Err fault)
