use Rattle.std.proofs.Common.{arith}
use Rattle.dasd_unload.proofs.Described.{ends_short, ends_cut, ends_whole, goes_on}
use Rattle.dasd_unload.proofs.forms.block_count.Goals as goal

pub returns-then-rest-lt-LENGTHS : goal.returns-then-rest-lt-LENGTHS
returns-then-rest-lt-LENGTHS c = ends_short _ _ c.loop.rest.now _ c.if-rest-lt-LENGTHS.true c.loop.invariant.blocks

pub returns-then-rest-size : goal.returns-then-rest-size
returns-then-rest-size c = ends_cut _ _ c.loop.rest.now _ _ c.block_size-size.ensures c.if-rest-size.true c.loop.invariant.blocks

pub loop-preserved : goal.loop-preserved
loop-preserved c = record {
  blocks = goes_on _ _ _ c.loop.rest.now _ _ (omega arith) c.if-rest-lt-LENGTHS.false c.block_size-size.ensures c.if-rest-size.false
      c.loop.invariant.blocks;
  few = omega (arith, c.loop.invariant.few);
}

pub returns : goal.returns
returns c = ends_whole _ _ c.loop.rest.now _ (omega arith) c.loop.invariant.blocks
