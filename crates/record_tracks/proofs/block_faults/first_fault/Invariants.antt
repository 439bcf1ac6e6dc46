use Rattle.std.proofs.Common.{◌≡◌, ◌-◌, length}
use Rattle.record_tracks.specs.{Blocks.rests_to, Blocks.rests_of, BlockFaults.fault_of_first, BlockFaults.first_fault}
use Rattle.record_tracks.proofs.block_faults.first_fault.Given as goal

-- the blocks so far are some
abbrev pub invariant-loop-k : goal.invariant-loop-k
invariant-loop-k l = first_fault (fault_of_first l.model l.layout l.key_length l.blocks.cut) (rests_of l.blocks.cut l.blocks.bytes.now) 0
    ≡ first_fault (fault_of_first l.model l.layout l.key_length l.blocks.cut)
    (rests_to l.blocks.cut (length l.blocks.bytes.now - l.k) l.rest) l.k
