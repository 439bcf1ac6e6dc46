use Rattle.std.proofs.Common.{rules, tests, []}
use Rattle.dasd_volumes.proofs.Appended.{one_more_text, all_texts}
use Rattle.dasd_contents.specs.Objects.{block_object}
use Rattle.dasd_contents.proofs.objects.write_sets.Goals as goal

pub loop-block-preserved : goal.loop-block-preserved
loop-block-preserved g c = one_more_text _ _ _ (block_object c.args.volume.path.now c.args.volume.geometry c.args.blocks.now) []
    c.args.blocks.now
    c.loop-block.block-index _ (search (rules, tests)) c.loop-block.invariant c.in_ok-write_block.ensures

pub returns : goal.returns
returns g c = all_texts _ _ (block_object c.args.volume.path.now c.args.volume.geometry c.args.blocks.now) [] c.args.blocks.now
    c.loop-block.block-index (search (rules, tests)) c.loop-block.invariant
