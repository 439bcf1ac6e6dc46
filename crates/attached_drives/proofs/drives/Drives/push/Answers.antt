use Rattle.attached_drives.proofs.Slots.{pushed}
use Rattle.attached_drives.proofs.drives.Drives.push.Goals as goal

pub invariant_of-self : goal.invariant_of-self
invariant_of-self g c = (pushed _ _ c.self.invariant c.self.view_is c.requires c.push.ensures.items).0

pub returns : goal.returns
returns g c = (pushed _ _ c.self.invariant c.self.view_is c.requires c.push.ensures.items).1
