-- What a watcher is told of a deck that is run.
use Rattle.std.specs.Prelude.{◌≡◌, ℕ, List, Result, Ok, Err}
use Rattle.counted_io.specs.Streams.{Stream}
use Rattle.s360_laws.specs.declared.events.Event.{Event}
use Rattle.s360_laws.specs.declared.answers.Answer.{Answer}
use Rattle.s360_channel.specs.Channel.{ChannelState}
use Rattle.s360_trace.specs.Looks.{AllWatched, Sees}
use Rattle.s360_deck.specs.CountedRuns.{ReadsWhole}
use Rattle.s360_deck.specs.Deck.{events_of}
use Rattle.s360_deck.specs.declared.runs.RunFault.{RunFault}
use Rattle.s360_deck.specs.declared.runs.RunFault.TheVariants.{Write}

-- A text is a deck, and a watcher was told each of its events.
pub record WatchesDeck {W : Type 0} (sees : Sees W) (text : List ℕ) (old new : ChannelState) (watcher now : W) : Type 0 where
  pub events : List Event
  pub are_these : events_of text ≡ Ok events
  pub answers : List Answer
  pub watched : AllWatched sees events answers old new watcher now

-- Whoever watches a text that is run is told each of its events, where they have happened; otherwise nothing.
abbrev pub WatchesText : {W : Type 0} → Sees W → Result (Unit {0}) RunFault → (text : List ℕ) → (old new : ChannelState)
    → (watcher now : W) → Type 0
WatchesText sees (Ok done) text old new watcher now = WatchesDeck sees text old new watcher now
WatchesText sees (Err Write) text old new watcher now = WatchesDeck sees text old new watcher now
WatchesText sees (Err fault) text old new watcher now = now ≡ watcher

-- The text was read whole, and watched.
pub record WatchesRead {W : Type 0} (sees : Sees W) (before after : Stream) (old new : ChannelState) (watcher now : W)
    : Type 0 where
  pub text : List ℕ
  pub is_read : ReadsWhole before after text
  pub watched : WatchesDeck sees text old new watcher now

-- The same of a text that a reader gives.
abbrev pub WatchesRun : {W : Type 0} → Sees W → Result (Unit {0}) RunFault → (before after : Stream) → (old new : ChannelState)
    → (watcher now : W) → Type 0
WatchesRun sees (Ok done) before after old new watcher now = WatchesRead sees before after old new watcher now
WatchesRun sees (Err Write) before after old new watcher now = WatchesRead sees before after old new watcher now
WatchesRun sees (Err fault) before after old new watcher now = now ≡ watcher
