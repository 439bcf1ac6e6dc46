use Rattle.std.proofs.Common.{◌≡◌, ◌++◌, drop, flat_map}
use Rattle.volume_contents.specs.Checks.{extents_of}
use Rattle.loaded_sets.proofs.volumes.push_sets.Given as goal

-- the extents so far, and those of the blocks that are left, are all
abbrev pub invariant-loop-block : goal.invariant-loop-block
invariant-loop-block l = l.extents.items ++ flat_map (extents_of l.blocks) (drop l.block-index l.blocks)
    ≡ l.fn.extents.items ++ flat_map (extents_of l.blocks) l.blocks
