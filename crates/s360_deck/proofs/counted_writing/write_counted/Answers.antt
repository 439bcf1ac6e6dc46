use Rattle.std.proofs.Common.{◌+◌, ℕ, ap, ◌∙◌, rules, tests}
use Rattle.std.proofs.lemmas.Result.{err_from_is_err_and}
use Rattle.s360_deck.proofs.CountedWritten.{behind_line}
use Rattle.s360_deck.proofs.counted_writing.write_counted.Goals as goal

pub returns-in_err-write_line-clause-written : goal.returns-in_err-write_line-clause-written
returns-in_err-write_line-clause-written g c =
    let p = err_from_is_err_and c.from_residual.result c.from_residual.ensures.1 in
    rw p.1 (
      behind_line _ _ _ c.args.answers.now c.loop-answer.answer-index _ (search (rules, tests))
          (search (rules, tests)) c.loop-answer.invariant.taken c.in_err-write_line.ensures.0,
      c.in_err-write_line.ensures.1 ∙ ap (λ (n : ℕ). n + 1) c.loop-answer.invariant.sound,
    )
