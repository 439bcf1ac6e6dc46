use Rattle.std.proofs.Common.{◌∙◌, sym}
use Rattle.s360_channel.proofs.channel.Channel.detach.Goals as goal

pub invariant_of-self : goal.invariant_of-self
invariant_of-self g c = c.self.invariant ∙ sym c.detach.ensures.same.size

pub returns-clause-detached : goal.returns-clause-detached
returns-clause-detached g c = rw (← c.self.view_is) (c.detach.ensures.detached c.self.inside.storage)

pub returns-clause-refused : goal.returns-clause-refused
returns-clause-refused g c = rw (← c.self.view_is) (c.detach.ensures.refused c.self.inside.storage)
