use Rattle.std.proofs.Common.{◌∙◌, sym}
use Rattle.s360_channel.proofs.channel.Channel.restore_pending.Goals as goal

pub invariant_of-self : goal.invariant_of-self
invariant_of-self g c = c.self.invariant ∙ sym c.restore_pending.ensures.same.size

pub returns-clause-stands : goal.returns-clause-stands
returns-clause-stands g c = rw (← c.self.view_is) (c.restore_pending.ensures.stands c.self.inside.storage)

pub returns-clause-refused : goal.returns-clause-refused
returns-clause-refused g c = rw (← c.self.view_is) (c.restore_pending.ensures.refused c.self.inside.storage)
