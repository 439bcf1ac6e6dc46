use Rattle.std.proofs.Common.{◌∙◌, ap, subst, sym, Some}
use Rattle.attached_drives.specs.Drives.{AttachedState, AllRest}
use Rattle.attached_drives.specs.DriveCalls.{TakesFirst}
use Rattle.attached_drives.proofs.Images.{rest_behind}
use Rattle.attached_drives.proofs.Slots.{first_taken}
use Rattle.attached_drives.proofs.drives.Drives.take_first.Goals as goal

pub returns-clause-taken : goal.returns-clause-taken
returns-clause-taken g c = subst (λ us. TakesFirst c.args.self.now us (Some (c.device.inside.device, c.into_image.result)))
    (sym c.take.ensures.becomes)
    (first_taken c.args.self.now c.take.result c.into_inner.result c.device.inside.device c.into_image.result c.take.ensures.was
    (ap (λ (u : AttachedState). u.device) c.device.view_is)
    (c.into_inner.ensures ∙ ap (λ (u : AttachedState). u.drive) c.device.view_is) c.into_image.ensures.image c.into_image.ensures.volume)

pub returns-clause-rests : goal.returns-clause-rests
returns-clause-rests g c = subst AllRest (sym c.take.ensures.becomes) (rest_behind c.args.self.now c.requires)
