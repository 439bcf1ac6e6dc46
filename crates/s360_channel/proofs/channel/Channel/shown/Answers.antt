use Rattle.std.proofs.Common.{rules}
use Rattle.s360_channel.proofs.Quiet.{quiet_as}
use Rattle.s360_channel.proofs.channel.Channel.shown.Goals as goal

pub returns-in-Some : goal.returns-in-Some
returns-in-Some g c m stands = quiet_as _ _ m _ _ _ (search rules) (search rules) (c.peek.ensures.does m stands)

pub returns-in-None : goal.returns-in-None
returns-in-None g c m stands = quiet_as _ _ m _ _ _ (search rules) (search rules) (c.peek.ensures.does m stands)
