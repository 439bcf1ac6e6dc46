use Rattle.std.proofs.Common.{◌∙◌, ap}
use Rattle.std.specs.Prelude.{is_some}
use Rattle.s360_channel.proofs.Shown.{idle_interrupts, pending_interrupts, working_interrupts}
use Rattle.s360_channel.proofs.selector.Selector.is_pending.Goals as goal

pub returns-in-Idle : goal.returns-in-Idle
returns-in-Idle g c = rw (← c.self.view_is) (λ s m h. c.is_some.ensures ∙ (ap is_some c.lowest_arrived.ensures
    ∙ idle_interrupts _ m h c.in-Idle.is))

pub returns-in-Working : goal.returns-in-Working
returns-in-Working g c = rw (← c.self.view_is) (λ s m h.
    working_interrupts _ m _ _ c.interruption_asked.result h c.in-Working.is (λ w. c.interruption_asked.ensures s w.attached.drive))

pub returns-in-Pending : goal.returns-in-Pending
returns-in-Pending g c = rw (← c.self.view_is) (λ s m h. pending_interrupts _ m _ _ h c.in-Pending.is)
