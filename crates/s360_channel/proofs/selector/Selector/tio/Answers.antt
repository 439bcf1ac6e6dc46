use Rattle.std.proofs.Common.{refl}
use Rattle.s360_laws.specs.Events.{Tio}
use Rattle.s360_laws.specs.Seen.{condition_seen, csw_seen}
use Rattle.s360_channel.proofs.Asked.{test_other, test_at, test_working, test_pending_other, test_pending}
use Rattle.s360_channel.proofs.Selecting.{quiet_selector}
use Rattle.s360_channel.proofs.selector.Selector.tio.Goals as goal

pub returns-then-address-self-clause-does : goal.returns-then-address-self-clause-does
returns-then-address-self-clause-does g c =
    rw (← c.self.view_is) (λ m st. test_other c.args.address _ _ _ _ m st c.if-address-self.true)

pub returns-in-Working-clause-does : goal.returns-in-Working-clause-does
returns-in-Working-clause-does g c = rw (← c.self.view_is)
    (λ m st. rw c.in-Working.is (test_working c.args.address _ _ _ _ _ m (rw c.in-Working.is at st) c.if-address-self.false))

pub invariant_of-self : goal.invariant_of-self
invariant_of-self g c =
    let k = c.test_device in
    quiet_selector (Tio c.args.address) (condition_seen csw_seen k.result) _ _ _ _ (rw (← c.self.view_is) at c.is_over.ensures) refl
    k.ensures.keeps (λ m st. rw c.in-Idle.is (test_at c.args.address _ _ _ m (rw c.in-Idle.is at st) c.if-address-self.false _ _
    k.new.drives k.ensures.does k.ensures.images))

pub returns-in-Idle-clause-does : goal.returns-in-Idle-clause-does
returns-in-Idle-clause-does g c = rw (← c.self.view_is) (λ m st.
    let k = c.test_device in
    rw c.in-Idle.is (test_at c.args.address _ _ _ m (rw c.in-Idle.is at st) c.if-address-self.false _ _ k.new.drives k.ensures.does
    k.ensures.images))

pub returns-in-Idle-clause-calls : goal.returns-in-Idle-clause-calls
returns-in-Idle-clause-calls g c = rw (← c.self.view_is) c.test_device.ensures.images

pub returns-then-device-pending-clause-does : goal.returns-then-device-pending-clause-does
returns-then-device-pending-clause-does g c = rw (← c.self.view_is) (λ m st.
    rw c.in-Pending.is (test_pending_other c.args.address _ _ _ _ _ m (rw c.in-Pending.is at st) c.if-address-self.false
    c.if-device-pending.true))

pub invariant_of-self-in-Pending : goal.invariant_of-self-in-Pending
invariant_of-self-in-Pending g c =
    let k = c.csw_stored in
    quiet_selector _ _ _ _ _ _ (rw (← c.self.view_is) at c.is_over.ensures) refl k.ensures.keeps (λ m st. test_pending c.args.address _ _
    c.in-Pending.pending c.in-Pending.csw _ m (rw c.in-Pending.is at st) c.if-address-self.false c.if-device-pending.false _
    k.ensures.storage)

pub returns-else-device-pending-clause-does : goal.returns-else-device-pending-clause-does
returns-else-device-pending-clause-does g c = rw (← c.self.view_is) (λ m st.
    let k = c.csw_stored in
    rw k.ensures.answer (test_pending c.args.address _ _ c.in-Pending.pending c.in-Pending.csw _ m (rw c.in-Pending.is at st)
    c.if-address-self.false c.if-device-pending.false _ k.ensures.storage))
