use Rattle.s360_channel.proofs.channel.Channel.drive.Goals as goal

pub returns-clause-shows : goal.returns-clause-shows
returns-clause-shows g c = rw (← c.self.view_is) (c.drive.ensures.shows c.self.inside.storage)
