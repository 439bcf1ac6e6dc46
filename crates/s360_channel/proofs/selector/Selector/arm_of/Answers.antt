use Rattle.std.proofs.Common.{sym}
use Rattle.s360_channel.proofs.AsSaved.{owes_at, owes_none}
use Rattle.s360_channel.proofs.selector.Selector.arm_of.Goals as goal

pub returns-in-Some : goal.returns-in-Some
returns-in-Some g c = rw (← c.self.view_is) (λ s m h. owes_at _ m c.args.device c.in-Some.place c.arm.result h
    (rw (← c.self.view_is) at c.requires) (sym c.in-Some.ensures) c.arm.ensures)

pub returns-in-None : goal.returns-in-None
returns-in-None g c = rw (← c.self.view_is) (λ s m h.
    owes_none _ m c.args.device h (rw (← c.self.view_is) at c.requires) (sym c.in-None.ensures))
