use Rattle.std.proofs.Common.{sym, append-nil}
use Rattle.volume_contents.proofs.Added.{each_more, each_all}
use Rattle.volume_contents.proofs.sets.push_extents.Goals as goal

pub loop-extent-init : goal.loop-extent-init
loop-extent-init c = sym (append-nil c.args.extents.now.items)

pub loop-extent-preserved : goal.loop-extent-preserved
loop-extent-preserved c = each_more _ _ _ _ c.args.more.now c.loop-extent.extent-index _ c.loop-extent-test.true c.loop-extent.invariant
    c.in_ok-push_extent.ensures

pub returns : goal.returns
returns c = each_all _ _ _ c.args.more.now c.loop-extent.extent-index c.loop-extent-test.false c.loop-extent.invariant
