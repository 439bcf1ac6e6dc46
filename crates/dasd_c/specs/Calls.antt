-- What the calls of a handle say and leave.
use Rattle.std.specs.Prelude.{◌≡◌, ℤ, pos, ℕ, Option, Some, None}
use Rattle.s360_words.specs.Storage.{Storage}
use Rattle.s360_laws.specs.Events as machine
use Rattle.s360_channel.specs.Channel.{ChannelState}
use Rattle.s360_channel.specs.declared.view.RunOn.{RunOn}
use Rattle.s360_channels.specs.Channels.{ChannelsState, AtMost, Runs}
use Rattle.s360_channels.specs.Turns.{Steps}
use Rattle.dasd_subsystem.specs.declared.subsystem.Subsystem.{Subsystem}
use Rattle.subsystem_calls.specs.Calls.{Everywhere, OverAny, OverLent, Own}
use Rattle.subsystem_calls.specs.Codes.{code_of, nothing_held}
use Rattle.dasd_c.specs.declared.turns.Ran.{Ran}
use Rattle.dasd_c.specs.declared.turns.Track.{Track}
use Rattle.dasd_c.specs.Shown.{ran_shown, track_shown}

-- A call of a handle that holds nothing says so, and the handle holds nothing afterwards; otherwise the call does this to the channels
-- that the handle holds.
abbrev pub Holds : (old new : Option Subsystem) → (code : ℤ) → (Subsystem → Subsystem → Type 0) → Type 0
Holds None None code does = code ≡ nothing_held
Holds None (Some new) code does = ⊥
Holds (Some old) None code does = ⊥
Holds (Some old) (Some new) code does = does old new

-- A call of a handle over the main storage that its channels own.
abbrev pub Calls : (old new : Option Subsystem) → (code : ℤ) → (ChannelsState → ChannelsState → Type 0) → Type 0
Calls old new code does = Holds old new code (Own code does)

-- A call of a handle that does the same whatever the storage is.
abbrev pub CallsAny : (old new : Option Subsystem) → (code : ℤ) → (ChannelsState → ChannelsState → Type 0) → Type 0
CallsAny old new code does = Holds old new code (Everywhere (OverAny does))

-- A call of a handle over main storage that it is lent. Where the handle holds nothing, nothing is lent either.
abbrev pub CallsLent : (old new : Option Subsystem) → (code : ℤ) → (ChannelsState → ChannelsState → Type 0) → (memory left : Storage) → Type 0
CallsLent None None code does memory left = (code ≡ nothing_held) × (left ≡ memory)
CallsLent None (Some new) code does memory left = ⊥
CallsLent (Some old) None code does memory left = ⊥
CallsLent (Some old) (Some new) code does memory left = OverLent code does memory left old new

-- Units of a channel's program, and how many were done.
abbrev pub StepsFor : (units : ℕ) → (code : ℤ) → (done : ℕ) → (old new : ChannelState) → Type 0
StepsFor units code done old new = (code ≡ pos 0) × Steps units done old new

-- The same, with what the channel does behind them.
pub record RunsFor (units : ℕ) (code : ℤ) (shown : Ran) (old new : ChannelState) : Type 0 where
  pub ran : RunOn
  pub told : code ≡ pos 0
  pub shows : shown ≡ ran_shown ran
  pub runs : Runs units ran old new

-- A reset of a channel: C is told whether a track could not be saved, and which.
pub record ResetsFor (code : ℤ) (before named : Track) (old new : ChannelState) : Type 0 where
  pub unsaved : Option (ℕ × ℕ × ℕ)
  pub told : code ≡ code_of (machine.WasReset unsaved)
  pub names : named ≡ track_shown unsaved before
  pub resets : AtMost 1 machine.Reset (machine.WasReset unsaved) old new
