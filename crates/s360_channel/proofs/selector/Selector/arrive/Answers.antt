use Rattle.std.proofs.Common.{◌∙◌, refl, sym, arith}
use Rattle.s360_laws.specs.declared.arm.Arm.TheVariants.{InMotion, AtRest, Arrived}
use Rattle.s360_channel.proofs.Asked.{arrive_other, arrive_none, arrive_still, arrive_moves, stays}
use Rattle.s360_channel.proofs.Selecting.{still_over}
use Rattle.s360_channel.proofs.Started.{armed_images, within}
use Rattle.s360_channel.proofs.selector.Selector.arrive.Goals as goal

pub returns-then-address-self-clause-does : goal.returns-then-address-self-clause-does
returns-then-address-self-clause-does g c =
    rw (← c.self.view_is) (λ s m st. arrive_other c.args.address _ _ _ _ m st c.if-address-self.true)

pub returns-in_default-clause-does : goal.returns-in_default-clause-does
returns-in_default-clause-does g c = rw (← c.self.view_is)
    (λ s m st. arrive_none c.args.address _ _ _ _ m st c.if-address-self.false (sym c.place_of.ensures ∙ c.in_default.is))

pub arm-requires : goal.arm-requires
arm-requires g c = (omega arith, within _ c.self.inside.drives c.in-Some.place (sym c.in-Some.ensures))

pub set_arm-requires : goal.set_arm-requires
set_arm-requires g c = (omega arith, within _ c.self.inside.drives c.in-Some.place (sym c.in-Some.ensures))

pub invariant_of-self : goal.invariant_of-self
invariant_of-self g c =
    let h = c.self.invariant in
    let m = h.is_over.channel.machine in
    still_over _ _ h refl (stays _ m _ _ (arrive_moves c.args.address _ _ _ _ m h.is_over.channel.stands c.if-address-self.false
    c.in-Some.place (sym c.in-Some.ensures) InMotion c.in-InMotion.ensures c.set_arm.new.self refl c.set_arm.ensures))

pub returns-in-InMotion-clause-does : goal.returns-in-InMotion-clause-does
returns-in-InMotion-clause-does g c = rw (← c.self.view_is) (λ s m st.
    arrive_moves c.args.address _ _ _ _ m st c.if-address-self.false c.in-Some.place (sym c.in-Some.ensures)
    InMotion c.in-InMotion.ensures c.set_arm.new.self refl c.set_arm.ensures)

pub returns-in-InMotion-clause-calls : goal.returns-in-InMotion-clause-calls
returns-in-InMotion-clause-calls g c = rw (← c.self.view_is) (λ s. armed_images c.self.inside.drives c.in-Some.place _ c.set_arm.new.self
    c.set_arm.ensures)

pub returns-in-AtRest-clause-does : goal.returns-in-AtRest-clause-does
returns-in-AtRest-clause-does g c = rw (← c.self.view_is) (λ s m st.
    arrive_still c.args.address _ _ _ _ m st c.if-address-self.false c.in-Some.place (sym c.in-Some.ensures) AtRest c.in-AtRest.ensures
    refl)

pub returns-in-Arrived-clause-does : goal.returns-in-Arrived-clause-does
returns-in-Arrived-clause-does g c = rw (← c.self.view_is) (λ s m st.
    arrive_still c.args.address _ _ _ _ m st c.if-address-self.false c.in-Some.place (sym c.in-Some.ensures) Arrived
    c.in-Arrived.ensures refl)
