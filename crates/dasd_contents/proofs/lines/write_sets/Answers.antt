use Rattle.std.proofs.Common.{rules, tests, []}
use Rattle.dasd_volumes.proofs.Appended.{one_more_text, all_texts}
use Rattle.dasd_contents.specs.Lines.{block_line}
use Rattle.dasd_contents.proofs.lines.write_sets.Goals as goal

pub loop-block-preserved : goal.loop-block-preserved
loop-block-preserved g c = one_more_text _ _ _ (block_line c.args.geometry c.args.blocks.now) [] c.args.blocks.now c.loop-block.block-index
    _ (search (rules, tests))
    c.loop-block.invariant c.in_ok-write_block.ensures

pub returns : goal.returns
returns g c =
    all_texts _ _ (block_line c.args.geometry c.args.blocks.now) [] c.args.blocks.now c.loop-block.block-index
    (search (rules, tests)) c.loop-block.invariant
