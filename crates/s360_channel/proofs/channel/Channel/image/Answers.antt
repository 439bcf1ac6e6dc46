use Rattle.s360_channel.proofs.channel.Channel.image.Goals as goal

pub returns-clause-shows : goal.returns-clause-shows
returns-clause-shows g c = rw (← c.self.view_is) (c.image.ensures.shows c.self.inside.storage)
