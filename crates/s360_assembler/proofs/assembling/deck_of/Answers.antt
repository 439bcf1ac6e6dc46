use Rattle.std.proofs.Common.{rules, tests, arith, ◌<◌, length}
use Rattle.s360_assembler.proofs.Passes.{next_written, faulty_written}
use Rattle.s360_assembler.proofs.assembling.deck_of.Goals as goal

pub returns-in-Err : goal.returns-in-Err
returns-in-Err c =
    let some : 0 < length c.loop-rest.rest.now = search (rules, tests) in
    let split = c.split_at_line_feed in
    rw c.told.ensures
    (faulty_written _ _ _ _ _ _ c.loop-rest.rest.now split.result.0.now split.result.1.now _ (split.ensures.lines some)
    (rw c.without_carriage_return.ensures at c.in-Err.ensures.writes) c.loop-rest.invariant.written)

pub loop-rest-preserved : goal.loop-rest-preserved
loop-rest-preserved c =
    let some : 0 < length c.loop-rest.rest.now = search (rules, tests) in
    let split = c.split_at_line_feed in
    record {
      written = next_written _ _ _ _ _ _ c.loop-rest.rest.now split.result.0.now split.result.1.now _ (split.ensures.lines some)
          (rw c.without_carriage_return.ensures at c.in-Ok.ensures.writes) c.loop-rest.invariant.written;
      small = omega (arith, split.ensures.shorter some, c.loop-rest.invariant.small);
      inside = c.in-Ok.ensures.bound;
    }
