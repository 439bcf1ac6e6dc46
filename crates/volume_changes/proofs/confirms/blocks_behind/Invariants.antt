use Rattle.std.proofs.Common.{◌≡◌, take, flat_map}
use Rattle.volume_changes.specs.Deletions.{block_behind}
use Rattle.volume_changes.proofs.confirms.blocks_behind.Given as goal

-- what becomes of the blocks so far
abbrev pub invariant-loop-block : goal.invariant-loop-block
invariant-loop-block l = l.all.items ≡ flat_map (block_behind l.changes) (take l.block-index l.blocks)
