use Rattle.std.proofs.Common.{◌∙◌, ap, slice_set}
use Rattle.std.proofs.lemmas.Option.{slice_get_within}
use Rattle.attached_drives.specs.Drives.{AttachedState}
use Rattle.attached_drives.proofs.Slots.{puts}
use Rattle.attached_drives.proofs.drives.Drives.restore.Goals as goal

pub invariant_of-self : goal.invariant_of-self
invariant_of-self g c =
    (puts _ _ _ c.self.invariant c.self.view_is (slice_get_within c.args.self.now c.args.place c.requires.attached c.requires.is_there)
    c.as_mut_slice.ensures.value c.in-Some.is).held

pub returns : goal.returns
returns g c =
    let p = puts _ _ _ c.self.invariant c.self.view_is (slice_get_within c.args.self.now c.args.place c.requires.attached
    c.requires.is_there) c.as_mut_slice.ensures.value c.in-Some.is in
    record {
      attached = c.in-Some.attached;
      was = p.was;
      becomes = p.becomes ∙ ap (λ (u : AttachedState). slice_set c.args.self.now c.args.place u) c.restore.ensures;
    }
