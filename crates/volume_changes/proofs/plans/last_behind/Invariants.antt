use Rattle.std.proofs.Common.{◌≡◌, drop, fold}
use Rattle.new_labels.specs.SetBlocks.{nowhere}
use Rattle.volume_changes.specs.Plans.{last_but}
use Rattle.volume_changes.proofs.plans.last_behind.Given as goal

-- the last one so far and those that are left give the last of all
abbrev pub invariant-loop-other : goal.invariant-loop-other
invariant-loop-other l =
    fold (last_but l.block.address) l.last (drop l.other-index l.blocks) ≡ fold (last_but l.block.address) nowhere l.blocks
