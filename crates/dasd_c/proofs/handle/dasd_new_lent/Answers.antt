use Rattle.std.proofs.Common.{rules, ◌∙◌, w32}
use Rattle.std.proofs.lemmas.Int.{to_z-of_z}
use Rattle.dasd_subsystem.specs.declared.refusal.Refusal.TheVariants.{OutOfMemory}
use Rattle.dasd_c.proofs.handle.dasd_new_lent.Goals as goal

-- what was made, and found no place, was allowed
pub returns-in-Ok-clause-refused : goal.returns-in-Ok-clause-refused
returns-in-Ok-clause-refused c none failed =
    let told = to_z-of_z w32 c.hold.result (search rules) in record {
      reason = OutOfMemory;
      told = told ∙ c.hold.ensures.no_memory (λ done. failed (told ∙ done));
      holds = c.in-Ok.ensures.allowed;
    }
