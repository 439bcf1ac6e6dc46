use Rattle.dasd_volumes.specs.Volumes.{of_each}
use Rattle.volume_contents.specs.Blocks.{Adds, blocks_in, findings_in}
use Rattle.volume_contents.proofs.blocks.read_records.Given as goal

-- the blocks and findings of the records so far are added
abbrev pub invariant-loop-i : goal.invariant-loop-i
invariant-loop-i l = Adds l.fn.found l.found (of_each (blocks_in l.track l.view) l.i) (of_each (findings_in l.track l.view) l.i)
