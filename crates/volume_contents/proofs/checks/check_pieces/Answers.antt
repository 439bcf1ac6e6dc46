use Rattle.std.proofs.Common.{refl}
use Rattle.volume_contents.specs.Checks.{found_at, free_claim_of, claimed_by_free, piece_findings}
use Rattle.volume_contents.proofs.InTurn.{one_found, all_found}
use Rattle.volume_contents.proofs.Checked.{no_piece, more_pieces}
use Rattle.volume_contents.proofs.Fronts.{at_error, begins_none, begins_more, front_none, front_so_far}
use Rattle.volume_contents.proofs.checks.check_pieces.Goals as goal

pub loop-piece-init : goal.loop-piece-init
loop-piece-init c = record { found = refl; begins = begins_none _ }

pub loop-piece-preserved : goal.loop-piece-preserved
loop-piece-preserved c = let g = c.args.geometry in let place = c.args.place in
    rw c.claim_free-problem.ensures.marks record {
      found = one_found (λ m f. found_at place (free_claim_of g m f)) (claimed_by_free g) (piece_findings g place)
          (no_piece g place) (more_pieces g place)
          _ _ _ c.loop-piece.marks c.args.pieces.now c.loop-piece.piece-index _ c.loop-piece-test.true
          (rw c.claim_free-problem.ensures.problem at c.in_ok-add_problem.ensures.added) c.loop-piece.invariant.found;
      begins = begins_more _ _ _ _ c.loop-piece.invariant.begins c.in_ok-add_problem.ensures.added;
    }

pub returns-in_err-add_problem-clause-front : goal.returns-in_err-add_problem-clause-front
returns-in_err-add_problem-clause-front c =
    at_error c.from_residual.result
    (front_so_far _ _ _ _ _ c.loop-piece.invariant.begins c.loop-piece.invariant.found (front_none _ _ _ c.in_err-add_problem.ensures.kept))

pub returns-clause-findings : goal.returns-clause-findings
returns-clause-findings c = let g = c.args.geometry in let place = c.args.place in
    all_found (λ m f. found_at place (free_claim_of g m f)) (claimed_by_free g) (piece_findings g place) (no_piece g place)
    (more_pieces g place)
    _ _ c.loop-piece.marks c.args.pieces.now c.loop-piece.piece-index c.loop-piece-test.false c.loop-piece.invariant.found
