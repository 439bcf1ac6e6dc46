use Rattle.std.proofs.Common.{◌∙◌, refl}
use Rattle.volume_hash.specs.SetLines.{shown}
use Rattle.volume_hash.specs.Sets.{block_lines, block_is_whole}
use Rattle.volume_hash.proofs.Grown.{no_text, no_test, one_more_text, one_more_test, all_text, all_tests}
use Rattle.volume_hash.proofs.sets.add_blocks.Goals as goal

pub loop-block-init : goal.loop-block-init
loop-block-init g c = record {
  lines = record { lines = λ slots known. no_text _; whole = λ slots known. no_test _ };
  volume = refl;
  failures = refl;
}

pub loop-block-preserved : goal.loop-block-preserved
loop-block-preserved g c =
    let so_far = c.loop-block.invariant in
    let step = rw so_far.volume at c.in_default.ensures.lines in
    let blocks = c.args.table.blocks.now in
    let i = c.loop-block.block-index in
    let form = c.args.table.form in
    let f = shown form.path.now form.json form.sets form.members in
    let g0 = (g.V.SlotReader.volume c.args.volume.now).geometry in
    record {
      lines = record {
        lines = λ slots known. one_more_text blocks i (λ b. block_lines f blocks b g0 slots) _ _ _ _ c.loop-block-test.true
            (so_far.lines.lines slots known) (step.lines slots known);
        whole = λ slots known. one_more_test blocks i (λ b. block_is_whole blocks b g0 slots) _ _ _ _ c.loop-block-test.true
            (so_far.lines.whole slots known) (step.whole slots known);
      };
      volume = c.in_default.ensures.volume.0 ∙ so_far.volume;
      failures = c.in_default.ensures.volume.1 ∙ so_far.failures;
    }

pub returns-in-Err-clause-volume : goal.returns-in-Err-clause-volume
returns-in-Err-clause-volume g c = rw (c.loop-block.invariant.volume, c.loop-block.invariant.failures) at c.in-Err.ensures.volume

pub returns-clause-lines : goal.returns-clause-lines
returns-clause-lines g c =
    let so_far = c.loop-block.invariant in
    let blocks = c.args.table.blocks.now in
    let i = c.loop-block.block-index in
    record {
      lines = λ slots known. all_text blocks i _ _ _ c.loop-block-test.false (so_far.lines.lines slots known);
      whole = λ slots known. all_tests blocks i _ _ _ c.loop-block-test.false (so_far.lines.whole slots known);
    }
