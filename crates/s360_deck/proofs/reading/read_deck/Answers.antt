use Rattle.std.proofs.Common.{arith}
use Rattle.std.proofs.lemmas.Result.{err_from_is_err_and}
use Rattle.s360_deck.proofs.ReadWhole.{front_more}
use Rattle.s360_deck.proofs.reading.read_deck.Goals as goal

pub returns-in_err-add-clause-front : goal.returns-in_err-add-clause-front
returns-in_err-add-clause-front g c =
    let p = err_from_is_err_and c.from_residual.result c.from_residual.ensures.1 in
    rw p.1 (
    front_more _ _ _ c.loop.text.items _ c.loop.invariant.read c.loop.invariant.size c.in-Ok.ensures.bytes.0
    (omega (arith, c.in-Ok.ensures.bound.0, c.in-Ok.ensures.bound.1)))
