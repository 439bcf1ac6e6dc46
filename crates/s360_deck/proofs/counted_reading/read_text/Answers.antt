use Rattle.std.proofs.Common.{arith}
use Rattle.std.proofs.lemmas.Result.{err_from_is_err_and}
use Rattle.s360_deck.proofs.ReadWhole.{not_added}
use Rattle.s360_deck.proofs.counted_reading.read_text.Goals as goal

pub returns-in_err-add-clause-err : goal.returns-in_err-add-clause-err
returns-in_err-add-clause-err g c =
    let p = err_from_is_err_and c.from_residual.result c.from_residual.ensures.1 in
    rw (p.1, p.2) (
    not_added c.in_err-add.field-0.0 _ _ _ c.loop.text.items _ c.loop.invariant.given c.loop.invariant.size c.loop.invariant.sound
    (record {
      known = c.in-Ok.ensures.bytes.0;
      passed = c.in-Ok.ensures.passed;
      sound = c.in-Ok.ensures.counted;
      size = omega (arith, c.in-Ok.ensures.bound.0, c.in-Ok.ensures.bound.1);
    }) c.in_err-add.ensures.err)
