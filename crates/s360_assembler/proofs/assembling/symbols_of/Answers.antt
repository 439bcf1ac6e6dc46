use Rattle.std.proofs.Common.{rules, tests, arith, ◌<◌, length}
use Rattle.s360_assembler.proofs.Passes.{next_noted, faulty_noted}
use Rattle.s360_assembler.proofs.assembling.symbols_of.Goals as goal

pub returns-in-Err : goal.returns-in-Err
returns-in-Err c =
    let some : 0 < length c.loop-rest.rest.now = search (rules, tests) in
    let split = c.split_at_line_feed in
    rw c.told.ensures
    (faulty_noted _ _ _ _ _ c.loop-rest.rest.now split.result.0.now split.result.1.now _ (split.ensures.lines some)
    (rw c.without_carriage_return.ensures at c.in-Err.ensures.notes) c.loop-rest.invariant.noted)

pub loop-rest-preserved : goal.loop-rest-preserved
loop-rest-preserved c =
    let some : 0 < length c.loop-rest.rest.now = search (rules, tests) in
    let split = c.split_at_line_feed in
    record {
      noted = next_noted _ _ _ _ _ _ c.loop-rest.rest.now split.result.0.now split.result.1.now _ (split.ensures.lines some)
          (rw c.without_carriage_return.ensures at c.in-Ok.ensures.notes) c.loop-rest.invariant.noted;
      small = omega (arith, split.ensures.shorter some, c.loop-rest.invariant.small);
      inside = c.in-Ok.ensures.bound;
    }
