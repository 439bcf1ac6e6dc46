-- What a watcher is told of a list of events at a channel.
use Rattle.std.specs.Prelude.{◌≡◌, ℕ, zero, suc, List, [], ◌∷◌}
use Rattle.s360_laws.specs.Events as machine
use Rattle.s360_laws.specs.Machine.{Machine}
use Rattle.s360_laws.specs.Seen.{event_seen, answer_seen}
use Rattle.s360_laws.specs.declared.events.Event.{Event}
use Rattle.s360_laws.specs.declared.answers.Answer.{Answer}
use Rattle.s360_channel.specs.Channel.{ChannelState, StandsFor}
use Rattle.s360_trace.specs.Happens.{Happens}
use Rattle.s360_trace.specs.declared.watching.Moment.{Moment}
use Rattle.s360_trace.specs.declared.watching.Moment.TheVariants as moment

-- when a watcher looks: before an event, behind a unit of a program, behind an event that was answered so
pub data Look : Type 0 where
  Before : Event → Look
  AtUnit : Look
  Behind : Event → Answer → Look

-- the look that a moment is, whatever lends the event and its answer
abbrev pub look_at : Moment → Look
look_at (moment.Before e) = Before e.now
look_at moment.Unit = AtUnit
look_at (moment.Behind e a) = Behind e.now a.now

-- what one look at a channel makes of a watcher
abbrev pub Sees : Type 0 → Type 1
Sees W = W → Look → ChannelState → W → Type 0

-- An event happens at a channel, whichever machine that stands for.
abbrev pub IsDone : machine.Event → machine.Answer → (old new : ChannelState) → Type 0
IsDone e answer old new = (m : Machine) → StandsFor old m → Happens e m answer old new

-- So many units of a program are done one by one, and behind each the watcher looks at the channel.
abbrev pub SeesUnits : {W : Type 0} → Sees W → (units : ℕ) → (old new : ChannelState) → (watcher now : W) → Type 0
SeesUnits sees zero old new watcher now = (new ≡ old) × (now ≡ watcher)
SeesUnits {W} sees (suc units) old new watcher now =
    (between : ChannelState) × (told : W) × SeesUnits sees units old between watcher told
    × IsDone (machine.StepBy 1) (machine.Stepped 1) between new × sees told AtUnit new now

-- The looks between the one before an event and the one behind it: one behind each unit, and none where no units are done.
abbrev pub SeesWithin : {W : Type 0} → Sees W → machine.Event → machine.Answer → (old new : ChannelState) → (watcher now : W) → Type 0
SeesWithin sees (machine.StepBy units) (machine.Stepped done) old new watcher now = SeesUnits sees done old new watcher now
SeesWithin sees e answer old new watcher now = now ≡ watcher

-- An event happens at a channel, and a watcher looks before it, behind each of its units, and behind it.
pub record IsWatched {W : Type 0} (sees : Sees W) (e : Event) (answer : Answer) (old new : ChannelState) (watcher now : W)
    : Type 0 where
  pub happens : IsDone (event_seen e) (answer_seen answer) old new
  pub begun : W
  pub before : sees watcher (Before e) old begun
  pub told : W
  pub within : SeesWithin sees (event_seen e) (answer_seen answer) old new begun told
  pub behind : sees told (Behind e answer) new now

-- So is each of a list of events, one after another.
abbrev pub AllWatched : {W : Type 0} → Sees W → List Event → List Answer → (old new : ChannelState) → (watcher now : W) → Type 0
AllWatched sees [] [] old new watcher now = (new ≡ old) × (now ≡ watcher)
AllWatched {W} sees (e ∷ events) (a ∷ answers) old new watcher now =
    (between : ChannelState) × (told : W) × IsWatched sees e a old between watcher told
    × AllWatched sees events answers between new told now
AllWatched sees events answers old new watcher now = ⊥
