use Rattle.s360_channel.proofs.channel.Channel.is_pending.Goals as goal

pub returns : goal.returns
returns g c = rw (← c.self.view_is) (c.is_pending.ensures c.self.inside.storage)
