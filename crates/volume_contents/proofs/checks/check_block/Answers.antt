use Rattle.std.proofs.Common.{rules, refl}
use Rattle.volume_contents.proofs.Fronts.{at_error, front_none}
use Rattle.volume_contents.proofs.checks.check_block.Goals as goal

pub returns-clause-findings : goal.returns-clause-findings
returns-clause-findings c =
    let is = c.in_ok-set.ensures in
    rw (← c.is_data_set.ensures, c.if-not-is_data_set.false) (rw (
      is.address,
      is.block,
      is.extents,
      is.fault,
    ) at c.check_set.ensures.findings)

pub returns-clause-marks : goal.returns-clause-marks
returns-clause-marks c =
    let is = c.in_ok-set.ensures in
    rw (← c.is_data_set.ensures, c.if-not-is_data_set.false) (rw is.extents at c.check_set.ensures.marks)

pub returns-in_err-set-clause-front : goal.returns-in_err-set-clause-front
returns-in_err-set-clause-front c =
    at_error c.from_residual.result
    (front_none _ _ _ refl)

pub returns-clause-front : goal.returns-clause-front
returns-clause-front c =
    let is = c.in_ok-set.ensures in
    rw (← c.is_data_set.ensures, c.if-not-is_data_set.false) (rw (is.address, is.block, is.extents, is.fault) at c.check_set.ensures.front)
