use Rattle.std.proofs.Common.{arith}
use Rattle.s360_channel.proofs.Shown.{working_shown, place_there, idle_shown, pending_shown}
use Rattle.s360_channel.proofs.selector.Selector.subchannel_shown.Goals as goal

pub device-requires : goal.device-requires
device-requires g c = let is = c.self.invariant.is_over.channel in
    (omega arith, place_there _ is.machine c.in-Working.place c.in-Working.running is.stands c.in-Working.is)

pub returns-in-Idle : goal.returns-in-Idle
returns-in-Idle g c = rw (← c.self.view_is) (λ s m h. idle_shown _ m h c.in-Idle.is)

pub returns-in-Working : goal.returns-in-Working
returns-in-Working g c = rw (← c.self.view_is) (λ s m h.
    working_shown _ m c.in-Working.place c.in-Working.running c.device.result c.interruption_asked.result
    h c.in-Working.is c.device.ensures (λ w. c.interruption_asked.ensures s w.attached.drive))

pub returns-in-Pending : goal.returns-in-Pending
returns-in-Pending g c = rw (← c.self.view_is) (λ s m h. pending_shown _ m _ _ h c.in-Pending.is)
