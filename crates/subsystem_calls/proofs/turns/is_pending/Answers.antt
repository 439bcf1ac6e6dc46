use Rattle.std.proofs.Common.{rules, ◌∙◌, w32}
use Rattle.std.proofs.lemmas.Int.{to_z-of_z}
use Rattle.subsystem_calls.proofs.turns.is_pending.Goals as goal

pub returns-clause-tells : goal.returns-clause-tells
returns-clause-tells c = λ s. record {
  answer = c.is_some.result;
  told = to_z-of_z w32 c.of_answer.result (search rules) ∙ c.of_answer.ensures;
  is_pending = record { first = c.poll.result; is_first = c.poll.ensures.first s; answers = search rules };
}
