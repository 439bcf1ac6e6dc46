use Rattle.s360_channel.proofs.channel.Channel.attach.Goals as goal

pub returns-clause-stands : goal.returns-clause-stands
returns-clause-stands g c = rw (← c.self.view_is) (c.attach.ensures.stands c.self.inside.storage)

pub returns-clause-refused : goal.returns-clause-refused
returns-clause-refused g c = rw (← c.self.view_is) (c.attach.ensures.refused c.self.inside.storage)

pub returns-clause-not_taken : goal.returns-clause-not_taken
returns-clause-not_taken g c = rw (← c.self.view_is) (c.attach.ensures.not_taken c.self.inside.storage)
