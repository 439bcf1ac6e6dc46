use Rattle.std.proofs.Common.{rules, ◌∙◌, w32}
use Rattle.std.proofs.lemmas.Int.{to_z-of_z}
use Rattle.subsystem_calls.proofs.OtherWords.{untold}
use Rattle.subsystem_calls.proofs.turns.taken_at.Goals as goal

-- C is told what was taken, and its address
pub returns-clause-does : goal.returns-clause-does
returns-clause-does g c = record {
  taken = c.interrupt_at.result;
  told = to_z-of_z w32 c.of_interruption.result (search rules) ∙ c.of_interruption.ensures.told;
  from = c.of_interruption.ensures.from;
  takes = c.interrupt_at.ensures.does;
}

pub returns-clause-untold : goal.returns-clause-untold
returns-clause-untold g c = λ h. c.of_interruption.ensures.from ∙ untold c.interrupt_at.result c.args.address.now
    (to_z-of_z w32 c.of_interruption.result (search rules) ∙ c.of_interruption.ensures.told) h
