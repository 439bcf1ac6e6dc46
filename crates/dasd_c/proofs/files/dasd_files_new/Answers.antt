use Rattle.std.proofs.Common.{rules, ◌∙◌, w32}
use Rattle.std.proofs.lemmas.Int.{to_z-of_z}
use Rattle.dasd_subsystem.specs.declared.refusal.Refusal.TheVariants.{OutOfMemory}
use Rattle.dasd_c.proofs.files.dasd_files_new.Goals as goal

-- files that were made, and found no place, were few
pub returns-in-Ok-clause-refused : goal.returns-in-Ok-clause-refused
returns-in-Ok-clause-refused c none failed =
    let told = to_z-of_z w32 c.hold_files.result (search rules) in record {
      reason = OutOfMemory;
      told = told ∙ c.hold_files.ensures.no_memory (λ done. failed (told ∙ done));
      holds = c.in-Ok.ensures.few;
    }
