use Rattle.std.proofs.Common.{refl}
use Rattle.volume_contents.specs.Claims.{claim_of, claimed_by}
use Rattle.volume_contents.specs.Checks.{found_at, extent_findings}
use Rattle.volume_contents.proofs.InTurn.{one_found, all_found, one_left, all_left}
use Rattle.volume_contents.proofs.Checked.{no_extent, more_extents}
use Rattle.volume_contents.proofs.Fronts.{at_error, begins_none, begins_more, front_none, front_so_far}
use Rattle.volume_contents.proofs.checks.check_extents.Goals as goal

pub loop-extent-init : goal.loop-extent-init
loop-extent-init c = record { found = refl; marked = refl; begins = begins_none _ }

pub loop-extent-preserved : goal.loop-extent-preserved
loop-extent-preserved c = let g = c.args.geometry in let place = c.args.place in rw c.claim_extent-problem.ensures.marks record {
  found = one_found (λ m e. found_at place (claim_of g m e)) (claimed_by g) (extent_findings g place) (no_extent g place)
      (more_extents g place)
      _ _ _ c.loop-extent.marks c.args.extents.now c.loop-extent.extent-index _ c.loop-extent-test.true
      (rw c.claim_extent-problem.ensures.problem at c.in_ok-add_problem.ensures.added) c.loop-extent.invariant.found;
  marked = one_left (claimed_by g) c.loop-extent.marks _ c.args.extents.now c.loop-extent.extent-index _ c.loop-extent-test.true
      c.loop-extent.invariant.marked;
  begins = begins_more _ _ _ _ c.loop-extent.invariant.begins c.in_ok-add_problem.ensures.added;
}

pub returns-in_err-add_problem-clause-front : goal.returns-in_err-add_problem-clause-front
returns-in_err-add_problem-clause-front c =
    at_error c.from_residual.result
    (front_so_far _ _ _ _ _ c.loop-extent.invariant.begins c.loop-extent.invariant.found
    (front_none _ _ _ c.in_err-add_problem.ensures.kept))

pub returns-clause-findings : goal.returns-clause-findings
returns-clause-findings c = let g = c.args.geometry in let place = c.args.place in
    all_found (λ m e. found_at place (claim_of g m e)) (claimed_by g) (extent_findings g place) (no_extent g place) (more_extents g place)
    _ _ c.loop-extent.marks c.args.extents.now c.loop-extent.extent-index c.loop-extent-test.false c.loop-extent.invariant.found

pub returns-clause-marks : goal.returns-clause-marks
returns-clause-marks c =
    all_left (claimed_by c.args.geometry) c.loop-extent.marks _ c.args.extents.now c.loop-extent.extent-index c.loop-extent-test.false
    c.loop-extent.invariant.marked
