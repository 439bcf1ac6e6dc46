-- What C is told of units until something happens.
use Rattle.std.specs.Prelude.{◌≡◌, ℤ, pos, ℕ, List, length, Option, Some, None}
use Rattle.s360_channel.specs.Channel.{ChannelState}
use Rattle.s360_channels.specs.Channels.{ChannelsState, OnChannel}
use Rattle.dasd_subsystem.specs.Until.{RunsUntil, until_of}
use Rattle.dasd_subsystem.specs.declared.until.RunProgress.{RunProgress}
use Rattle.dasd_subsystem.specs.declared.until.Until.{Until}
use Rattle.dasd_subsystem.specs.declared.until.Wanted.{Wanted}
use Rattle.subsystem_calls.specs.Codes.{bad_until, no_channel}
use Rattle.subsystem_calls.specs.Sized.{fitted, progress_bytes}
use Rattle.dasd_c.specs.declared.until.UnitsWanted.{UnitsWanted}

-- a channel's program runs until something happens, and C is told what came of it, as far as it has room
pub record RunsUntilFor (wanted : Wanted) (code : ℤ) (before told : List ℕ) (old new : ChannelState) : Type 0 where
  pub progress : RunProgress
  pub done : code ≡ pos 0
  pub tells : told ≡ fitted (length before) (progress_bytes progress)
  pub runs : RunsUntil wanted progress old new

-- or there is no such channel; or a bit of what is waited for has no meaning: nothing is told then, and nothing changes
abbrev pub RunsUntilAny : Option Until → (channel units : ℕ) → (code : ℤ) → (before told : List ℕ) → (old new : ChannelsState) → Type 0
RunsUntilAny None channel units code before told old new = (code ≡ bad_until) × (told ≡ before) × (new ≡ old)
RunsUntilAny (Some until) channel units code before told old new =
    OnChannel channel (RunsUntilFor (record { channel = channel; units = units; until = until }) code before told)
    ((code ≡ no_channel) × (told ≡ before)) old new

-- the same by the bits of a byte
abbrev pub RunsUntilBits : UnitsWanted → (code : ℤ) → (before told : List ℕ) → (old new : ChannelsState) → Type 0
RunsUntilBits wanted code before told old new = RunsUntilAny (until_of wanted.until) wanted.channel wanted.units code before told old new
