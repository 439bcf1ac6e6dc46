-- What a deck that was run leaves, from what its parts leave.
use Rattle.std.proofs.Common.{◌≡◌, ◌≤◌, ℕ, List, length, Result, Ok, Err, inl, inr, subst, arith}
use Rattle.counted_io.specs.Streams.{Stream}
use Rattle.s360_channel.specs.Channel.{ChannelState}
use Rattle.s360_deck.specs.declared.fault.DeckFault.TheVariants.{OutOfMemory, Unknown, Operand, LineTooLong}
use Rattle.s360_deck.specs.declared.fault.ReadFault.{ReadFault}
use Rattle.s360_deck.specs.declared.fault.ReadFault.TheVariants as reading
use Rattle.s360_deck.specs.declared.runs.RunFault.{RunFault}
use Rattle.s360_deck.specs.declared.runs.RunFault.TheVariants.{Deck, Read, Write}
use Rattle.s360_deck.specs.Runs.{Spells}
use Rattle.s360_deck.specs.Texts.{RunsText}
use Rattle.s360_deck.specs.CountedRuns.{CountedRuns, ReadsWhole, ReadsFaultily, run_fault}

-- the text was not read whole
pub is_unread : (fault : ReadFault) (before after : Stream) (old new : ChannelState) (written_before written : Stream)
    → ReadsFaultily fault before after → CountedRuns (Err (run_fault fault)) before after old new written_before written
is_unread reading.Failed before after old new written_before written h = inl h
is_unread reading.TooLong before after old new written_before written h = inr h
is_unread reading.OutOfMemory before after old new written_before written h = h

-- the text is no deck
pub is_faulty : (fault : RunFault) (old new : ChannelState) (written_before written : Stream) (text : List ℕ)
    → length text ≤ 1048576 → Spells (Err fault) text → RunsText (Err fault) text old new written_before written
is_faulty (Deck OutOfMemory) old new written_before written text size r = size
is_faulty (Deck (Unknown n)) old new written_before written text size r = (size, r)
is_faulty (Deck (Operand n)) old new written_before written text size r = (size, r)
is_faulty (Deck (LineTooLong n)) old new written_before written text size r = (size, r)
is_faulty Read old new written_before written text size r = absurd r
is_faulty Write old new written_before written text size r = absurd r

-- the text was read whole
read_whole : (result : Result (Unit {0}) RunFault) (before after : Stream) (old new : ChannelState) (written_before written : Stream)
    (text : List ℕ)
    → ReadsWhole before after text → RunsText result text old new written_before written
    → CountedRuns result before after old new written_before written
read_whole (Ok done) before after old new written_before written text h r = record { text = text; is_read = h; runs = r }
read_whole (Err Write) before after old new written_before written text h r = record { text = text; is_read = h; runs = r }
read_whole (Err Read) before after old new written_before written text h r = absurd (omega (arith, h.size, r))
read_whole (Err (Deck OutOfMemory)) before after old new written_before written text h r = record {
  text = text;
  given = h.given;
  size =
      h.size;
  sound = h.sound;
}
read_whole (Err (Deck (Unknown n))) before after old new written_before written text h r = record { text = text; is_read = h; runs = r }
read_whole (Err (Deck (Operand n))) before after old new written_before written text h r = record { text = text; is_read = h; runs = r }
read_whole (Err (Deck (LineTooLong n))) before after old new written_before written text h r = record { text = text; is_read = h; runs = r }

pub is_read_whole : (result : Result (Unit {0}) RunFault) (before after : Stream) (old new : ChannelState) (written_before written : Stream)
    (text seen : List ℕ)
    → seen ≡ text → ReadsWhole before after text → RunsText result seen old new written_before written
    → CountedRuns result before after old new written_before written
is_read_whole result before after old new written_before written text seen is h r =
    read_whole result before after old new written_before written text h
    (subst (λ (t : List ℕ). RunsText result t old new written_before written) is r)
