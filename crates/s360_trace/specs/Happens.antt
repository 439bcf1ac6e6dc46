-- An event happens at a channel: what the machine says of it, and how often stores are called.
use Rattle.s360_laws.specs.Events.{Event, Answer}
use Rattle.s360_laws.specs.Machine.{Machine}
use Rattle.s360_channel.specs.Calls.{CallsAtMost, Does, most_calls}
use Rattle.s360_channel.specs.Channel.{ChannelState}

-- at a channel that stands for this machine the event is answered so, as it is without a watcher
pub record Happens (e : Event) (m : Machine) (answer : Answer) (old new : ChannelState) : Type 0 where
  pub does : Does e m answer old new
  pub calls : CallsAtMost (most_calls e answer) old new
