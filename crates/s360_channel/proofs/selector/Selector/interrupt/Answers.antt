use Rattle.std.proofs.Common.{refl, arith}
use Rattle.s360_laws.specs.Events.{Interrupt, Interrupted}
use Rattle.s360_channel.proofs.Asked.{interrupt_idle, interrupt_pending, interrupt_working, place_within}
use Rattle.s360_channel.proofs.Selecting.{quiet_selector}
use Rattle.s360_channel.proofs.selector.Selector.interrupt.Goals as goal

pub device-device-requires : goal.device-device-requires
device-device-requires g c = let is = rw (← c.self.view_is) at c.is_over.ensures in
    (omega arith, place_within _ _ c.in-Working.place c.in-Working.running _ (rw c.in-Working.is at is.channel))

pub invariant_of-self : goal.invariant_of-self
invariant_of-self g c =
    let k = c.interrupt_device in
    quiet_selector Interrupt (Interrupted k.result) _ _ _ _ (rw (← c.self.view_is) at c.is_over.ensures) refl k.ensures.keeps (λ m st.
    rw c.in-Idle.is (interrupt_idle _ _ _ m k.result _ k.new.drives (rw c.in-Idle.is at st) k.ensures.does k.ensures.images))

pub returns-in-Idle-clause-does : goal.returns-in-Idle-clause-does
returns-in-Idle-clause-does g c = rw (← c.self.view_is) (λ m st.
    let k = c.interrupt_device in
    rw c.in-Idle.is (interrupt_idle _ _ _ m k.result _ k.new.drives (rw c.in-Idle.is at st) k.ensures.does k.ensures.images))

pub returns-in-Idle-clause-calls : goal.returns-in-Idle-clause-calls
returns-in-Idle-clause-calls g c = rw (← c.self.view_is) c.interrupt_device.ensures.images

pub invariant_of-self-in-Working : goal.invariant_of-self-in-Working
invariant_of-self-in-Working g c =
    let k = c.interrupt_program in
    quiet_selector _ _ _ _ _ _ (rw (← c.self.view_is) at c.is_over.ensures) refl k.ensures.keeps (λ m st.
    interrupt_working c.stands_after_interruption.ensures c.stands_after_change.ensures _ _ c.in-Working.place c.in-Working.running _ m
    (rw c.in-Working.is at st) k.result k.new.running _ c.device-device.result c.device-device.ensures k.ensures.takes)

pub returns-in-Working-clause-does : goal.returns-in-Working-clause-does
returns-in-Working-clause-does g c = rw (← c.self.view_is) (λ m st.
    let k = c.interrupt_program in
    interrupt_working c.stands_after_interruption.ensures c.stands_after_change.ensures _ _ c.in-Working.place c.in-Working.running _ m
    (rw c.in-Working.is at st) k.result k.new.running _ c.device-device.result c.device-device.ensures k.ensures.takes)

pub invariant_of-self-in-Pending : goal.invariant_of-self-in-Pending
invariant_of-self-in-Pending g c =
    let k = c.interrupted in
    quiet_selector _ _ _ _ _ _ (rw (← c.self.view_is) at c.is_over.ensures) refl k.ensures.keeps (λ m st. interrupt_pending _ _
    c.in-Pending.device c.in-Pending.csw _ m k.result _ (rw c.in-Pending.is at st) k.ensures.told k.ensures.storage)

pub returns-in-Pending-clause-does : goal.returns-in-Pending-clause-does
returns-in-Pending-clause-does g c = rw (← c.self.view_is) (λ m st.
    let k = c.interrupted in
    interrupt_pending _ _ c.in-Pending.device c.in-Pending.csw _ m k.result _ (rw c.in-Pending.is at st) k.ensures.told k.ensures.storage)
