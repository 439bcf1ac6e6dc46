use Rattle.std.proofs.Common.{◌∙◌, refl, sym, subst, OnErr}
use Rattle.std.proofs.lemmas.Result.{on_err_weaker}
use Rattle.volume_contents.specs.Checks.{free_findings_at, AddsFront}
use Rattle.volume_contents.proofs.Fronts.{at_error, front_none, front_behind}
use Rattle.volume_contents.proofs.checks.check_free.Goals as goal

pub returns-in_err-free-clause-front : goal.returns-in_err-free-clause-front
returns-in_err-free-clause-front c =
    at_error c.from_residual.result
    (front_none _ _ _ refl)

pub returns-in_err-add_chain-clause-front : goal.returns-in_err-add_chain-clause-front
returns-in_err-add_chain-clause-front c =
    at_error c.from_residual-in_err-add_chain.result
    (front_none _ _ _ c.in_err-add_chain.ensures.kept)

pub returns-clause-front : goal.returns-clause-front
returns-clause-front c =
    let is = c.in_ok-free.ensures in
    subst (λ place. OnErr c.check_pieces.result (AddsFront c.args.findings.now.items c.check_pieces.new.findings.items
    (free_findings_at c.args.volume.geometry c.args.volume.blocks.now c.args.marks.now place))) (sym c.in-Some.is ∙ is.address)
    (on_err_weaker c.check_pieces.result (λ f. front_behind _ _ _ _ _ (rw is.fault at c.in_ok-add_chain.ensures.added) f)
    (rw (c.as_slice.ensures.value, is.pieces) at c.check_pieces.ensures.front))
