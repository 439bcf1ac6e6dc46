-- What a deck that was run leaves, from what its parts leave.
use Rattle.std.proofs.Common.{◌≡◌, ℕ, List, Option, Result, Ok, Err, map, refl, sym, ap, subst, ◌∙◌, arith}
use Rattle.s360_laws.specs.declared.answers.Answer.{Answer}
use Rattle.s360_laws.specs.declared.events.Event.{Event}
use Rattle.s360_laws.specs.Answered.{AllAnswered}
use Rattle.s360_laws.specs.Seen.{event_seen, answer_seen}
use Rattle.s360_laws.specs.Machine.{Machine}
use Rattle.s360_channel.specs.Channel.{ChannelState, StandsFor}
use Rattle.s360_channel.specs.Lists.{Follows}
use Rattle.s360_deck.specs.declared.fault.DeckFault.TheVariants.{OutOfMemory, Unknown, Operand, LineTooLong}
use Rattle.s360_deck.specs.declared.runs.RunFault.{RunFault}
use Rattle.s360_deck.specs.declared.runs.RunFault.TheVariants.{Deck, Read, Write}
use Rattle.s360_deck.specs.Deck.{events_of}
use Rattle.s360_deck.specs.Lines.{lines_text}
use Rattle.s360_deck.specs.Runs.{Runs, StaysUnlessRun, ReadsWhole, ReadsFront, IsReadFault, Spells, WritesFront}
use Rattle.s360_deck.specs.Texts.{HasRun}

abbrev IsWrite : RunFault → Type 0
IsWrite Write = Unit {0}
IsWrite fault = ⊥

-- what stays the same stays whatever is answered
pub same_stays : {A : Type 0} (result : Result (Unit {0}) RunFault) (a : A) → StaysUnlessRun result a a
same_stays (Ok done) a = tt
same_stays (Err Write) a = tt
same_stays (Err Read) a = refl
same_stays (Err (Deck fault)) a = refl

-- all that a reader had is a front of it
is_front : (before after : Option (List ℕ)) (text : List ℕ) → ReadsWhole before after text → ReadsFront before after
is_front before after text h = record { text = text; read = h.read; size = omega (arith, h.size) }

-- the first bytes were read
pub is_unread : (fault : RunFault) (before after : Option (List ℕ)) (old new : ChannelState) (written_before written : Option (List ℕ))
    → IsReadFault fault → ReadsFront before after → Runs (Err fault) before after old new written_before written
is_unread Read before after old new written_before written is h = h
is_unread Write before after old new written_before written is h = absurd is
is_unread (Deck OutOfMemory) before after old new written_before written is h = h
is_unread (Deck (Unknown n)) before after old new written_before written is h = absurd is
is_unread (Deck (Operand n)) before after old new written_before written is h = absurd is
is_unread (Deck (LineTooLong n)) before after old new written_before written is h = absurd is

-- there was no memory for the answers
pub has_no_room : (before after : Option (List ℕ)) (old new : ChannelState) (written_before written : Option (List ℕ)) (text : List ℕ)
    → ReadsWhole before after text → Runs (Err (Deck OutOfMemory)) before after old new written_before written
has_no_room before after old new written_before written text h = is_front before after text h

-- the text is no deck
faulty : (fault : RunFault) (before after : Option (List ℕ)) (old new : ChannelState) (written_before written : Option (List ℕ))
    (text : List ℕ)
    → ReadsWhole before after text → Spells (Err fault) text → Runs (Err fault) before after old new written_before written
faulty (Deck OutOfMemory) before after old new written_before written text h r = is_front before after text h
faulty (Deck (Unknown n)) before after old new written_before written text h r = record { text = text; is_read = h; faulty = r }
faulty (Deck (Operand n)) before after old new written_before written text h r = record { text = text; is_read = h; faulty = r }
faulty (Deck (LineTooLong n)) before after old new written_before written text h r = record { text = text; is_read = h; faulty = r }
faulty Read before after old new written_before written text h r = absurd r
faulty Write before after old new written_before written text h r = absurd r

pub is_faulty : (fault : RunFault) (before after : Option (List ℕ)) (old new : ChannelState) (written_before written : Option (List ℕ))
    (text seen : List ℕ)
    → seen ≡ text → ReadsWhole before after text → Spells (Err fault) seen → Runs (Err fault) before after old new written_before written
is_faulty fault before after old new written_before written text seen is h r =
    faulty fault before after old new written_before written text h (subst (Spells (Err fault)) is r)

-- the events have happened, and the lines were written, or the first bytes of them
ran : (result : Result (Unit {0}) RunFault) (before after : Option (List ℕ)) (old new : ChannelState) (written_before written : Option
    (List ℕ)) (text : List ℕ) (answers : List Answer)
    → ReadsWhole before after text → HasRun text old new answers → WritesFront result written_before written (lines_text answers)
    → Runs result before after old new written_before written
ran (Ok done) before after old new written_before written text answers is h w = record {
  text = text;
  is_read = is;
  answers =
      answers;
  has_run = h;
  lines = w;
}
ran (Err Write) before after old new written_before written text answers is h w = record {
  text = text;
  is_read = is;
  answers =
      answers;
  has_run = h;
  lines = w.1;
}
ran (Err Read) before after old new written_before written text answers is h w = absurd (subst IsWrite (sym w.0) tt)
ran (Err (Deck fault)) before after old new written_before written text answers is h w = absurd (subst IsWrite (sym w.0) tt)

-- a text was read whole, and spells these events
pub record ReadsEvents (before after : Option (List ℕ)) (events : List Event) : Type 0 where
  pub text : List ℕ
  pub is_read : ReadsWhole before after text
  pub are_these : events_of text ≡ Ok events

-- what is seen of a text spells what is seen of the events
pub spelled_as : (text seen : List ℕ) (events driven : List Event) → seen ≡ text → driven ≡ events → events_of seen ≡ Ok events
    → events_of text ≡ Ok driven
spelled_as text seen events driven seen_is driven_is spelled =
    subst (λ t. events_of t ≡ Ok driven) seen_is (spelled ∙ ap (λ (es : List Event). Ok es) (sym driven_is))

-- these events have happened at the channel, with these answers
pub record HaveHappened (events : List Event) (answers : List Answer) (old new : ChannelState) : Type 0 where
  pub answered : AllAnswered events answers
  pub follows : (m : Machine) → StandsFor old m → Follows m (map event_seen events) (map answer_seen answers) old new

pub has_run : (result : Result (Unit {0}) RunFault) (before after : Option (List ℕ)) (old new : ChannelState)
    (written_before written : Option (List ℕ)) (events : List Event) (answers : List Answer) → ReadsEvents before after events
    → HaveHappened events answers old new → WritesFront result written_before written (lines_text answers)
    → Runs result before after old new written_before written
has_run result before after old new written_before written events answers read happened w =
    ran result before after old new written_before written read.text answers read.is_read
    (record {
      size = read.is_read.size;
      events = events;
      are_these = read.are_these;
      answered = happened.answered;
      follows = happened.follows;
    })
    w
