use Rattle.std.proofs.Common.{rules, tests, arith, ◌<◌, length}
use Rattle.s360_assembler.proofs.Pieces.{next_named}
use Rattle.s360_assembler.proofs.files.files_named.Goals as goal

pub loop-rest-preserved : goal.loop-rest-preserved
loop-rest-preserved c =
    let some : 0 < length c.loop-rest.rest.now = search (rules, tests) in
    let split = c.split_at_line_feed in
    record {
      named = next_named _ _ c.loop-rest.rest.now split.result.0.now split.result.1.now _ (split.ensures.lines some)
          (search rules) c.loop-rest.invariant.named;
    }
