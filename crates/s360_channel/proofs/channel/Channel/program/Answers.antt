use Rattle.s360_channel.proofs.channel.Channel.program.Goals as goal

pub returns : goal.returns
returns g c = rw (← c.self.view_is) (record { shows = c.program.ensures c.self.inside.storage; over_any_storage = c.program.ensures })
