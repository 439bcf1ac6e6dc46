-- Units, and calls at each channel in its turn.
use Rattle.std.specs.Prelude.{◌≡◌, ◌+◌, ◌*◌, ◌≤◌, ℕ, List, [], ◌∷◌, Option, Some, None}
use Rattle.s360_laws.specs.Events.{StepBy, Stepped}
use Rattle.s360_channel.specs.Channel.{ChannelState}
use Rattle.s360_channels.specs.Channels.{ChannelsState, AtMost, OnChannel}

-- Units of the program that runs, so many at most.
pub record Steps (units done : ℕ) (old new : ChannelState) : Type 0 where
  pub steps : AtMost (2 * done) (StepBy units) (Stepped done) old new
  pub most : done ≤ units

-- and what is answered of that channel
abbrev pub StepsTo : (units : ℕ) → Option ℕ → (old new : ChannelState) → Type 0
StepsTo units None old new = ⊥
StepsTo units (Some done) old new = Steps units done old new

-- The channels from a number on do this one after another, in order of number, and each of these is answered for its number: each
-- channel does it over the storage that those before it left.
abbrev pub EachFrom : {A : Type 0} → (number : ℕ) → (How : Option A → ChannelState → ChannelState → Type 0)
    → List (Option A) → (old new : ChannelsState) → Type 0
EachFrom number How [] old new = new ≡ old
EachFrom number How (answer ∷ answers) old new =
    (between : ChannelsState) × OnChannel number (How answer) (answer ≡ None) old between
    × EachFrom (number + 1) How answers between new
