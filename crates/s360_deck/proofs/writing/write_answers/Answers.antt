use Rattle.std.proofs.Common.{rules, tests}
use Rattle.std.proofs.lemmas.Result.{err_from_is_err_and}
use Rattle.s360_deck.proofs.Written.{behind_line}
use Rattle.s360_deck.proofs.writing.write_answers.Goals as goal

pub returns-in_err-write_answer : goal.returns-in_err-write_answer
returns-in_err-write_answer g c =
    let p = err_from_is_err_and c.from_residual.result c.from_residual.ensures.1 in
    rw (p.1, p.2) (behind_line _ _ _ c.args.answers.now c.loop-answer.answer-index _ _ (search (rules, tests))
    (search (rules, tests)) c.loop-answer.invariant c.in_err-write_answer.ensures)
