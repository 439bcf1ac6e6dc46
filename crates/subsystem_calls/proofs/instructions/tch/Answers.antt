use Rattle.std.proofs.Common.{rules, ◌∙◌, w32}
use Rattle.std.proofs.lemmas.Int.{to_z-of_z}
use Rattle.s360_laws.specs.Seen.{condition_seen}
use Rattle.s360_laws.specs.Events.{WithCode}
use Rattle.s360_laws.specs.declared.condition.ConditionCode.TheVariants.{One}
use Rattle.subsystem_calls.proofs.instructions.tch.Goals as goal

-- C is told the number of the channel's answer
pub returns : goal.returns
returns c = λ s. record {
  answer = condition_seen (λ u. WithCode One) c.tch.result;
  told = to_z-of_z w32 c.of_test.result (search rules) ∙ c.of_test.ensures;
  tests = c.tch.ensures s;
}
