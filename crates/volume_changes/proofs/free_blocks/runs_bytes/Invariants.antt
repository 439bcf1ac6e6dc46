use Rattle.std.proofs.Common.{◌≡◌, ◌-◌, ◌*◌, ◌++◌, replicate}
use Rattle.dasd_volumes.specs.Volumes.{of_each}
use Rattle.new_labels.specs.FreeSpace.{run_bytes}
use Rattle.volume_changes.specs.FreeBlocks.{run_in}
use Rattle.volume_changes.proofs.free_blocks.runs_bytes.Given as goal

-- the bytes of the runs so far stand at the front, and zeros behind them
abbrev pub invariant-loop-i : goal.invariant-loop-i
invariant-loop-i l = l.bytes ≡ of_each (λ k. run_bytes (run_in l.runs k)) l.i ++ replicate (130 - l.i * 5) 0
