use Rattle.std.proofs.Common.{rules, tests}
use Rattle.volume_details.specs.Sections.{shown_by, block_lines}
use Rattle.volume_details.proofs.Sectioned.{one_more_section, all_sections}
use Rattle.volume_details.proofs.sections.add_sections.Goals as goal

pub loop-block-preserved : goal.loop-block-preserved
loop-block-preserved g c = record {
  lines = λ slots known.
      let more = rw (c.loop-block.invariant.volume) at c.in_default.ensures.lines in
      one_more_section _ _ _
      (λ b. block_lines (shown_by c.args.view) c.args.blocks.now b (g.V.SlotReader.volume c.args.volume.now).geometry slots)
      c.args.blocks.now c.loop-block.block-index _ (search (rules, tests)) (c.loop-block.invariant.lines slots known) (more slots known);
  volume = search (rules, tests);
  failures = search (rules, tests);
}

pub returns-clause-lines : goal.returns-clause-lines
returns-clause-lines g c = λ slots known.
    all_sections _ _ (λ b. block_lines (shown_by c.args.view) c.args.blocks.now b (g.V.SlotReader.volume c.args.volume.now).geometry slots)
    c.args.blocks.now c.loop-block.block-index (search (rules, tests)) (c.loop-block.invariant.lines slots known)
