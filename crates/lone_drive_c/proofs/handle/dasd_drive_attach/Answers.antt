use Rattle.std.proofs.Common.{rules, ◌∙◌, w32}
use Rattle.std.proofs.lemmas.Int.{to_z-of_z}
use Rattle.lone_drive_c.specs.declared.refusal.NotMade.TheVariants.{OutOfMemory}
use Rattle.lone_drive_c.proofs.handle.dasd_drive_attach.Goals as goal

-- what was made found no place
pub returns-in-Ok-clause-refused : goal.returns-in-Ok-clause-refused
returns-in-Ok-clause-refused c none failed =
    let told = to_z-of_z w32 c.hold.result (search rules) in record {
      reason = OutOfMemory;
      told = told ∙ c.hold.ensures.no_memory (λ done. failed (told ∙ done));
      holds = tt;
    }
