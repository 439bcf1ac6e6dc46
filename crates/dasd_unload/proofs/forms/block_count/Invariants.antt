use Rattle.std.proofs.Common.{◌≡◌, ◌+◌, ◌-◌, ◌≤◌, length}
use Rattle.dasd_unload.specs.Described.{blocks_within, block_count}
use Rattle.dasd_unload.proofs.forms.block_count.Given as goal

-- the blocks so far and those of the rest are all
abbrev pub invariant-loop : goal.invariant-loop
invariant-loop l = record {
  blocks : l.count + blocks_within (length l.bytes - l.counter) l.rest ≡ block_count l.bytes;
  few : l.count ≤ l.counter;
}
