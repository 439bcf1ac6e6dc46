use Rattle.std.proofs.lemmas.Result.{on_err_weaker}
use Rattle.volume_contents.proofs.Fronts.{at_error, front_none, front_behind}
use Rattle.volume_contents.proofs.checks.check_set.Goals as goal

pub returns-in_err-add_chain-clause-front : goal.returns-in_err-add_chain-clause-front
returns-in_err-add_chain-clause-front c =
    at_error c.from_residual.result
    (front_none _ _ _ c.in_err-add_chain.ensures.kept)

pub returns-in_err-add_number-clause-front : goal.returns-in_err-add_number-clause-front
returns-in_err-add_number-clause-front c =
    at_error c.from_residual-in_err-add_number.result
    (front_behind _ _ _ _ _ c.in_ok-add_chain.ensures.added (front_none _ _ _ c.in_err-add_number.ensures.kept))

pub returns-clause-front : goal.returns-clause-front
returns-clause-front c =
    let are = c.as_slice-extents.ensures.value in
    on_err_weaker c.check_extents.result
    (λ f. front_behind _ _ _ _ _ c.in_ok-add_chain.ensures.added (front_behind _ _ _ _ _ (rw are at c.in_ok-add_number.ensures.added) f))
    (rw are at c.check_extents.ensures.front)
