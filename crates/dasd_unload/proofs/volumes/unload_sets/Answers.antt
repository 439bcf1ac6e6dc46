use Rattle.std.proofs.Common.{◌∙◌, refl}
use Rattle.std.specs.List.{flat_map}
use Rattle.std.specs.Option.{option_copied}
use Rattle.dasd_unload.specs.Volumes.{plan, block_steps}
use Rattle.dasd_unload.proofs.Folder.{adds_none, adds_both}
use Rattle.dasd_unload.proofs.Steps.{nothing, next, stop_next, all}
use Rattle.dasd_unload.proofs.volumes.unload_sets.Goals as goal

pub loop-block-init : goal.loop-block-init
loop-block-init g c = record { files = adds_none _ _; same = refl; kept = refl; steps = nothing _ _ _ _ _ }

pub returns-in-Err-clause-files : goal.returns-in-Err-clause-files
returns-in-Err-clause-files g c = adds_both _ _ _ _ c.loop-block.invariant.files c.unload_block.ensures.files

-- a data set was not unloaded
pub returns-in-Err-clause-does : goal.returns-in-Err-clause-does
returns-in-Err-clause-does g c =
    let t = c.args.table.target in
    let blocks = c.args.table.blocks.now in
    stop_next (g.V.SlotReader.volume c.args.volume.now) (plan t.folder.now t.block_form (option_copied t.json))
    (λ u. flat_map (block_steps u blocks) blocks)
    (λ u k. block_steps u blocks k) blocks c.loop-block.block-index _ _ _ _ c.loop-block.invariant.steps _ _ _ _ _ c.loop-block-test.true
    (rw c.loop-block.invariant.kept at c.in-Err.ensures.does)

pub loop-block-preserved : goal.loop-block-preserved
loop-block-preserved g c =
    let t = c.args.table.target in
    let blocks = c.args.table.blocks.now in record {
      files = adds_both _ _ _ _ c.loop-block.invariant.files c.unload_block.ensures.files;
      same = c.unload_block.ensures.same ∙ c.loop-block.invariant.same;
      kept = c.unload_block.ensures.kept ∙ c.loop-block.invariant.kept;
      steps = next (g.V.SlotReader.volume c.args.volume.now) (plan t.folder.now t.block_form (option_copied t.json))
          (λ u. flat_map (block_steps u blocks) blocks)
          (λ u k. block_steps u blocks k) blocks c.loop-block.block-index _ _ _ _ c.loop-block.invariant.steps _ _ _ c.loop-block-test.true
          (rw c.loop-block.invariant.kept at c.in_default.ensures.does);
    }

pub returns-clause-does : goal.returns-clause-does
returns-clause-does g c =
    let t = c.args.table.target in
    let blocks = c.args.table.blocks.now in
    all (g.V.SlotReader.volume c.args.volume.now) (plan t.folder.now t.block_form (option_copied t.json))
    (λ u. flat_map (block_steps u blocks) blocks)
    (λ u k. block_steps u blocks k) blocks c.loop-block.block-index _ _ _ _ c.loop-block.invariant.steps c.loop-block-test.false
