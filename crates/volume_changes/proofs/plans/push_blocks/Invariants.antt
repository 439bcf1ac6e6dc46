use Rattle.std.proofs.Common.{◌≡◌, ◌++◌, take}
use Rattle.volume_changes.proofs.plans.push_blocks.Given as goal

-- those so far are there
abbrev pub invariant-loop-block : goal.invariant-loop-block
invariant-loop-block l = l.all.items ≡ l.fn.all.items ++ take l.block-index l.more
