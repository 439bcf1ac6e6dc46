-- What a look of a trace answers, and what it puts into the trace's bytes.
use Rattle.std.specs.Prelude.{◌≡◌, ℤ, pos, length, nat_lt, is_some, Option, Some, None}
use Rattle.s360_channels.specs.Channels.{ChannelsState, channel_at}
use Rattle.subsystem_calls.specs.declared.fault.LookFault.{LookFault}
use Rattle.subsystem_calls.specs.declared.fault.LookFault.TheVariants.{NoChannel, BadMoment, NoRoom}
use Rattle.subsystem_calls.specs.declared.told.ToldMoment.{ToldMoment}
use Rattle.subsystem_calls.specs.Looks.{Puts, is_moment, why_not}
use Rattle.subsystem_calls.specs.Codes.{bad_moment, no_channel, no_room}
use Rattle.dasd_c.specs.declared.tracing.Trace.{Trace}

-- why a look was refused
abbrev pub look_code : LookFault → ℤ
look_code NoChannel = no_channel
look_code BadMoment = bad_moment
look_code NoRoom = no_room

-- Refused, and the trace stays; or lines stand at the front of its bytes, which lie where they lay, and it says how many bytes they have.
abbrev pub TellsLook : Option LookFault → (code : ℤ) → (old new : Trace) → Type 0
TellsLook (Some fault) code old new = (code ≡ look_code fault) × (new ≡ old)
TellsLook None code old new =
    (code ≡ pos 0) × (new.lines.ghost_name ≡ old.lines.ghost_name) × Puts new.len old.lines.now new.lines.now

-- A look at a moment, of channels as they are.
abbrev pub LooksFor : ToldMoment → (code : ℤ) → (old new : Trace) → ChannelsState → Type 0
LooksFor told code old new s =
    TellsLook (why_not (is_some (channel_at told.channel s)) (is_moment told) (nat_lt (length old.lines.now) 2048)) code old new
