use Rattle.std.proofs.Common.{◌∙◌, refl, sym, arith}
use Rattle.s360_channel.proofs.Asked.{start_other, start_busy, start_none, start_at, rests_there}
use Rattle.s360_channel.proofs.Selecting.{quiet_selector}
use Rattle.s360_channel.proofs.selector.Selector.sio.Goals as goal

pub returns-then-address-self-clause-does : goal.returns-then-address-self-clause-does
returns-then-address-self-clause-does g c =
    rw (← c.self.view_is) (λ m st. start_other c.args.address _ _ _ _ m st c.if-address-self.true)

pub returns-in_default-clause-does : goal.returns-in_default-clause-does
returns-in_default-clause-does g c =
    rw (← c.self.view_is) (λ m st. start_busy c.args.address _ _ _ _ m st c.if-address-self.false c.in_default.not-Idle)

pub returns-in_default-place_of-clause-does : goal.returns-in_default-place_of-clause-does
returns-in_default-place_of-clause-does g c = rw (← c.self.view_is) (λ m st. rw c.in-Idle.is (start_none c.args.address _ _ _ m
    (rw c.in-Idle.is at st) c.if-address-self.false (sym c.place_of.ensures ∙ c.in_default-place_of.is)))

pub start_device-requires : goal.start_device-requires
start_device-requires g c =
    let is = rw (← c.self.view_is) at c.is_over.ensures in
    (omega arith, (c.in-Idle.is, rests_there _ _ _ _ c.in-Some.place (rw c.in-Idle.is at is.channel) (sym c.in-Some.ensures)))

pub invariant_of-self : goal.invariant_of-self
invariant_of-self g c =
    let k = c.start_device in
    quiet_selector _ _ _ _ _ _ (rw (← c.self.view_is) at c.is_over.ensures) refl k.ensures.keeps (λ m st.
    start_at c.args.address _ _ _ m (rw c.in-Idle.is at st) c.if-address-self.false c.in-Some.place _ _ k.new.subchannel k.new.drives
    (sym c.in-Some.ensures) k.ensures.does k.ensures.images)

pub returns-clause-does : goal.returns-clause-does
returns-clause-does g c = rw (← c.self.view_is) (λ m st.
    let k = c.start_device in
    start_at c.args.address _ _ _ m (rw c.in-Idle.is at st) c.if-address-self.false c.in-Some.place _ _ k.new.subchannel k.new.drives
    (sym c.in-Some.ensures) k.ensures.does k.ensures.images)

pub returns-clause-calls : goal.returns-clause-calls
returns-clause-calls g c = rw (← c.self.view_is) c.start_device.ensures.images
