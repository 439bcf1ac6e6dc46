-- What a watcher is told of a deck whose text was read.
use Rattle.std.proofs.Common.{◌≡◌, ℕ, List, Result, Ok, Err, subst}
use Rattle.counted_io.specs.Streams.{Stream}
use Rattle.s360_channel.specs.Channel.{ChannelState}
use Rattle.s360_trace.specs.Looks.{Sees}
use Rattle.s360_deck.specs.declared.runs.RunFault.{RunFault}
use Rattle.s360_deck.specs.declared.runs.RunFault.TheVariants.{Deck, Read, Write}
use Rattle.s360_deck.specs.CountedRuns.{ReadsWhole}
use Rattle.s360_deck.specs.Watched.{WatchesRun, WatchesText}

module _ {W : Type 0} (sees : Sees W) (before after : Stream) (text : List ℕ) (is : ReadsWhole before after text) where
  told : (result : Result (Unit {0}) RunFault) (old new : ChannelState) (watcher now : W)
      → WatchesText sees result text old new watcher now → WatchesRun sees result before after old new watcher now
  told (Ok done) old new watcher now h = record { text = text; is_read = is; watched = h }
  told (Err Write) old new watcher now h = record { text = text; is_read = is; watched = h }
  told (Err Read) old new watcher now h = h
  told (Err (Deck fault)) old new watcher now h = h

  pub is_told : (result : Result (Unit {0}) RunFault) (old new : ChannelState) (watcher now : W) (seen : List ℕ)
      → seen ≡ text → WatchesText sees result seen old new watcher now
      → WatchesRun sees result before after old new watcher now
  is_told result old new watcher now seen same h =
      told result old new watcher now (subst (λ (t : List ℕ). WatchesText sees result t old new watcher now) same h)
