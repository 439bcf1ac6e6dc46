use Rattle.std.proofs.Common.{◌≡◌, rules, refl}
use Rattle.std.proofs.lemmas.Result.{on_err_weaker}
use Rattle.volume_contents.specs.Checks.{claimed_first}
use Rattle.volume_contents.proofs.Fronts.{at_error, front_none, front_before, front_behind}
use Rattle.volume_contents.proofs.checks.check_contents.Goals as goal

pub returns-in_err-marks-clause-front : goal.returns-in_err-marks-clause-front
returns-in_err-marks-clause-front c =
    at_error c.from_residual.result
    (front_none _ _ _ refl)

pub returns-in_err-check_sets-clause-front : goal.returns-in_err-check_sets-clause-front
returns-in_err-check_sets-clause-front c =
    let first : c.claim_extent.new.marks ≡ claimed_first c.args.geometry c.in-Some.table = search rules in
    at_error c.from_residual-in_err-check_sets.result
    (rw c.in-Some.is (front_before _ _ _ _ (rw (first, c.as_slice-blocks.ensures.value) at c.in_err-check_sets.ensures.front)))

pub returns-clause-front : goal.returns-clause-front
returns-clause-front c =
    let first : c.claim_extent.new.marks ≡ claimed_first c.args.geometry c.in-Some.table = search rules in
    let blocks = c.as_slice-blocks.ensures.value in
    rw c.in-Some.is
    (on_err_weaker c.check_free.result (λ f. front_behind _ _ _ _ _ (rw (first, blocks) at c.in_ok-check_sets.ensures.findings) f)
    (rw (c.in_ok-check_sets.ensures.marks, first, blocks) at c.check_free.ensures.front))
