use Rattle.std.proofs.Common.{◌∙◌, refl, subst, sym, Option}
use Rattle.ckd_track.specs.declared.model.DriveModel.{DriveModel}
use Rattle.s360_channels.specs.Selectors.{across}
use Rattle.subsystem_calls.specs.Attaching.{AttachesOf, Done}
use Rattle.subsystem_calls.proofs.attaching.attach_new.Goals as goal

-- the model is the one of that number
pub returns-in-Ok-clause-does : goal.returns-in-Ok-clause-does
returns-in-Ok-clause-does c = λ s.
    let old = across c.args.subsystem.now.channels s in
    let new = across c.attach_new.new.self.channels s in
    Done refl (subst (λ (o : Option DriveModel). AttachesOf o c.args.address c.args.cylinders old new) (sym c.in-Some.is
    ∙ c.numbered.ensures) (c.in-Ok.ensures.attached s))
