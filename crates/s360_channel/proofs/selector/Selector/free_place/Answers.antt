use Rattle.std.proofs.Common.{◌∙◌, refl, sym}
use Rattle.s360_laws.specs.declared.arm.Arm.TheVariants.{InMotion, Arrived}
use Rattle.s360_channel.proofs.Removing.{free_at, why_none, why_owes, why_pends, why_runs}
use Rattle.s360_channel.proofs.selector.Selector.free_place.Goals as goal

pub returns-in_default-clause-refused : goal.returns-in_default-clause-refused
returns-in_default-clause-refused g c s m h =
    why_none _ m (rw (← c.self.view_is) at h) c.args.device (sym c.place_of.ensures ∙ c.in_default.is)

pub returns-then-works_at-clause-refused : goal.returns-then-works_at-clause-refused
returns-then-works_at-clause-refused g c s m h =
    why_runs _ m (rw (← c.self.view_is) at h) c.args.device c.in-Some.place (sym c.in-Some.ensures)
    (sym c.works_at.ensures ∙ c.if-works_at.true)

pub returns-then-waits_for-clause-refused : goal.returns-then-waits_for-clause-refused
returns-then-waits_for-clause-refused g c s m h =
    why_pends _ m (rw (← c.self.view_is) at h) c.args.device c.in-Some.place
    (sym c.in-Some.ensures) (sym c.works_at.ensures ∙ c.if-works_at.false) (sym c.waits_for.ensures ∙ c.if-waits_for.true)

pub returns-in-AtRest-clause-free : goal.returns-in-AtRest-clause-free
returns-in-AtRest-clause-free g c = rw (← c.self.view_is) (λ s.
    free_at _ c.args.device c.in-Some.place (sym c.in-Some.ensures)
    (sym c.works_at.ensures ∙ c.if-works_at.false) (sym c.waits_for.ensures ∙ c.if-waits_for.false) c.in-AtRest.ensures)

pub returns-in-InMotion-clause-refused : goal.returns-in-InMotion-clause-refused
returns-in-InMotion-clause-refused g c s m h =
    why_owes _ m (rw (← c.self.view_is) at h) c.args.device c.in-Some.place (sym c.in-Some.ensures) InMotion
    (sym c.works_at.ensures ∙ c.if-works_at.false) (sym c.waits_for.ensures ∙ c.if-waits_for.false) c.in-InMotion.ensures refl

pub returns-in-Arrived-clause-refused : goal.returns-in-Arrived-clause-refused
returns-in-Arrived-clause-refused g c s m h =
    why_owes _ m (rw (← c.self.view_is) at h) c.args.device c.in-Some.place (sym c.in-Some.ensures) Arrived
    (sym c.works_at.ensures ∙ c.if-works_at.false) (sym c.waits_for.ensures ∙ c.if-waits_for.false) c.in-Arrived.ensures refl
