use Rattle.std.proofs.Common.{◌≡◌, take, flat_map}
use Rattle.volume_changes.specs.Deletions.{block_bytes}
use Rattle.volume_changes.proofs.confirms.bytes_of.Given as goal

-- the bytes of the blocks so far
abbrev pub invariant-loop-block : goal.invariant-loop-block
invariant-loop-block l = l.bytes.items ≡ flat_map block_bytes (take l.block-index l.blocks)
