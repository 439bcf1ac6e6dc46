use Rattle.std.proofs.Common.{◌≡◌, ◌∷◌, []}
use Rattle.dasd_volumes.specs.Volumes.{of_each}
use Rattle.volume_changes.specs.FreeBlocks.{rewritten}
use Rattle.volume_changes.proofs.free_blocks.changes_of.Given as goal

-- what becomes of the blocks so far
abbrev pub invariant-loop-i : goal.invariant-loop-i
invariant-loop-i l = l.changes.items ≡ of_each (λ k. rewritten l.blocks l.runs l.holding k ∷ []) l.i
