use Rattle.std.proofs.Common.{refl, sym, subst}
use Rattle.volume_contents.specs.Checks.{block_findings, claimed_by_block, sets_findings, AddsFront}
use Rattle.volume_contents.proofs.InTurn.{one_found, all_found, rest_begins, one_left, all_left}
use Rattle.volume_contents.proofs.Checked.{no_set, more_sets}
use Rattle.volume_contents.proofs.Fronts.{at_error, begins_none, begins_more, front_before, front_so_far}
use Rattle.volume_contents.proofs.checks.check_sets.Goals as goal

pub loop-block-init : goal.loop-block-init
loop-block-init c = record { found = refl; marked = refl; begins = begins_none _ }

pub loop-block-preserved : goal.loop-block-preserved
loop-block-preserved c = let g = c.args.volume.geometry in let blocks = c.args.volume.blocks.now in
    rw c.in_ok-check_block.ensures.marks record {
      found = one_found (block_findings g blocks) (claimed_by_block g blocks) (sets_findings g blocks) (no_set g blocks)
          (more_sets g blocks)
          _ _ _ c.loop-block.marks blocks c.loop-block.block-index _ c.loop-block-test.true c.in_ok-check_block.ensures.findings
          c.loop-block.invariant.found;
      marked = one_left (claimed_by_block g blocks) c.loop-block.marks _ blocks c.loop-block.block-index _ c.loop-block-test.true
          c.loop-block.invariant.marked;
      begins = begins_more _ _ _ _ c.loop-block.invariant.begins c.in_ok-check_block.ensures.findings;
    }

pub returns-in_err-check_block-clause-front : goal.returns-in_err-check_block-clause-front
returns-in_err-check_block-clause-front c = let g = c.args.volume.geometry in let blocks = c.args.volume.blocks.now in
    at_error c.from_residual.result (
    front_so_far _ _ _ _ _ c.loop-block.invariant.begins c.loop-block.invariant.found
    (subst (λ l. AddsFront c.loop-block.findings.items c.check_block.new.findings.items l)
    (sym (rest_begins (block_findings g blocks) (claimed_by_block g blocks) (sets_findings g blocks) (no_set g blocks) (more_sets g blocks)
    c.loop-block.marks blocks c.loop-block.block-index _ c.loop-block-test.true))
    (front_before _ _ _ _ c.in_err-check_block.ensures.front)))

pub returns-clause-findings : goal.returns-clause-findings
returns-clause-findings c = let g = c.args.volume.geometry in let blocks = c.args.volume.blocks.now in
    all_found (block_findings g blocks) (claimed_by_block g blocks) (sets_findings g blocks) (no_set g blocks) (more_sets g blocks)
    _ _ c.loop-block.marks blocks c.loop-block.block-index c.loop-block-test.false c.loop-block.invariant.found

pub returns-clause-marks : goal.returns-clause-marks
returns-clause-marks c = let blocks = c.args.volume.blocks.now in
    all_left (claimed_by_block c.args.volume.geometry blocks) c.loop-block.marks _ blocks c.loop-block.block-index c.loop-block-test.false
    c.loop-block.invariant.marked
