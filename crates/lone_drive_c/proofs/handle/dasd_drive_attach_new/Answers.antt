use Rattle.std.proofs.Common.{rules, ◌∙◌, sym, subst, w32, Option, to_z, of_z}
use Rattle.std.proofs.lemmas.Int.{to_z-of_z}
use Rattle.ckd_track.specs.declared.model.DriveModel.{DriveModel}
use Rattle.lone_drive_c.specs.Making.{NotFormatted}
use Rattle.lone_drive_c.specs.declared.refusal.NotMade.TheVariants.{OutOfMemory}
use Rattle.lone_drive_c.specs.Calls.{TellsWhy, WhyNone}
use Rattle.lone_drive_c.proofs.handle.dasd_drive_attach_new.Goals as goal

-- what was made, of a model that there is, found no place
pub returns-in-Ok-clause-refused : goal.returns-in-Ok-clause-refused
returns-in-Ok-clause-refused c none failed =
    let told = to_z-of_z w32 c.hold.result (search rules) in
    let code = to_z w32 (of_z w32 c.hold.result) in
    let why : TellsWhy (NotFormatted c.args.cylinders) code = record {
      reason = OutOfMemory;
      told = told ∙ c.hold.ensures.no_memory (λ done. failed (told ∙ done));
      holds = c.in-Ok.ensures.some;
    } in subst (λ (o : Option DriveModel). WhyNone o c.args.cylinders code) (sym c.in-Some.is ∙ c.numbered.ensures) why
