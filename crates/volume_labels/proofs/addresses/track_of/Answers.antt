use Rattle.std.proofs.Common.{◌∙◌, sym}
use Rattle.volume_labels.proofs.StepsOver.{found_there, passed_over, no_extent}
use Rattle.volume_labels.proofs.addresses.track_of.Goals as goal

pub returns-in-Found : goal.returns-in-Found
returns-in-Found c = sym (c.loop-extent.invariant ∙ found_there _ _ _ _ _ c.loop-extent-test.true _ (sym c.step_over.ensures
    ∙ c.in-Found.is))

pub loop-extent-preserved : goal.loop-extent-preserved
loop-extent-preserved c = c.loop-extent.invariant ∙ passed_over _ _ _ _ _ c.loop-extent-test.true _ (sym c.step_over.ensures ∙ c.in-Left.is)

pub returns : goal.returns
returns c = sym (c.loop-extent.invariant ∙ no_extent _ _ _ _ c.loop-extent-test.false)
