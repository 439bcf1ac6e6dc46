use Rattle.std.proofs.Common.{◌∙◌, sym}
use Rattle.s360_channel.proofs.channel.Channel.restore_drive.Goals as goal

pub invariant_of-self : goal.invariant_of-self
invariant_of-self g c = c.self.invariant ∙ sym c.restore_drive.ensures.same.size

pub returns-clause-restored : goal.returns-clause-restored
returns-clause-restored g c = rw (← c.self.view_is) (c.restore_drive.ensures.restored c.self.inside.storage)

pub returns-clause-refused : goal.returns-clause-refused
returns-clause-refused g c = rw (← c.self.view_is) (c.restore_drive.ensures.refused c.self.inside.storage)
