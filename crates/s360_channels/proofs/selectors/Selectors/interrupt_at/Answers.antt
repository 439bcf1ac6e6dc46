use Rattle.std.proofs.Common.{arith}
use Rattle.s360_laws.specs.Events.{Interrupt}
use Rattle.s360_channels.proofs.Fitting.{calls_behind, fit_behind, here, lent, loud, quiet_channel, still_lent}
use Rattle.s360_channels.proofs.selectors.Selectors.interrupt_at.Goals as goal

pub interrupt-requires : goal.interrupt-requires
interrupt-requires g c =
    let h = here _ c.in_ok-place.ensures.there c.self.invariant c.in-Some.is in
    (omega arith, (lent h c.self.view_is c.are_over.ensures).is_over.size)

pub invariant_of-self-2 : goal.invariant_of-self-2
invariant_of-self-2 g c =
    let h = here _ c.in_ok-place.ensures.there c.self.invariant c.in-Some.is in
    let found = lent h c.self.view_is c.are_over.ensures in
    let d = c.interrupt.ensures in
    fit_behind h d.same (still_lent found d.same d.keeps (quiet_channel Interrupt found.is_over.channel d.does)) loud loud

pub returns-clause-does : goal.returns-clause-does
returns-clause-does g c =
    let d = c.interrupt.ensures in
    let h = here _ c.in_ok-place.ensures.there c.self.invariant c.in-Some.is in
    calls_behind h _ _ c.self.view_is d.same d.keeps (record { does = d.does; calls = d.calls })
