use Rattle.std.proofs.Common.{◌∙◌, append-nil, refl, sym}
use Rattle.volume_contents.proofs.Added.{each_more, each_all}
use Rattle.volume_findings.specs.Data.{block_findings}
use Rattle.volume_findings.proofs.sets.add_blocks.Goals as goal

pub loop-block-init : goal.loop-block-init
loop-block-init g c = record { found = λ slots known. sym (append-nil _); volume = refl; failures = refl }

pub loop-block-preserved : goal.loop-block-preserved
loop-block-preserved g c =
    let so_far = c.loop-block.invariant in
    let step = rw so_far.volume at c.in_default.ensures.found in
    let blocks = c.args.blocks.now in
    let g0 = (g.V.SlotReader.volume c.args.volume.now).geometry in
    record {
      found = λ slots known. each_more _ _ _ (λ b. block_findings blocks b g0 slots) blocks c.loop-block.block-index _
          c.loop-block-test.true
          (so_far.found slots known) (step slots known);
      volume = c.in_default.ensures.volume.0 ∙ so_far.volume;
      failures = c.in_default.ensures.volume.1 ∙ so_far.failures;
    }

pub returns-in-Err-clause-volume : goal.returns-in-Err-clause-volume
returns-in-Err-clause-volume g c = rw (c.loop-block.invariant.volume, c.loop-block.invariant.failures) at c.in-Err.ensures.volume

pub returns-clause-found : goal.returns-clause-found
returns-clause-found g c = λ slots known.
    each_all _ _ _ c.args.blocks.now c.loop-block.block-index c.loop-block-test.false (c.loop-block.invariant.found slots known)
