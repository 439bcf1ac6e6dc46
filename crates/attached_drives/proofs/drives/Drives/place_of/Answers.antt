use Rattle.std.proofs.Common.{◌∙◌, ap}
use Rattle.std.specs.Prelude.{position}
use Rattle.attached_drives.specs.Slots.{is_held}
use Rattle.attached_drives.proofs.Slots.{place_held}
use Rattle.attached_drives.proofs.drives.Drives.place_of.Goals as goal

pub returns : goal.returns
returns g c = c.place_of.ensures ∙ ap (position (is_held c.args.device)) c.as_slice.ensures.value
    ∙ place_held c.args.device c.self.invariant c.self.view_is
