use Rattle.std.proofs.Common.{[]}
use Rattle.volume_contents.specs.Contents.{no_block}
use Rattle.volume_contents.proofs.Added.{each_more}
use Rattle.volume_changes.specs.Deletions.{block_behind}
use Rattle.volume_changes.proofs.confirms.blocks_behind.Goals as goal

pub loop-block-preserved : goal.loop-block-preserved
loop-block-preserved c =
    each_more [] _ _ (block_behind c.args.changes.now) c.args.blocks.now c.loop-block.block-index no_block c.loop-block-test.true
    c.loop-block.invariant c.in_ok-push_behind.ensures
