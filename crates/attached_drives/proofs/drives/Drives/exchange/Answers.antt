use Rattle.std.proofs.Common.{◌≡◌, ◌∙◌, ap, rules, slice_set}
use Rattle.std.proofs.lemmas.Option.{slice_get_within}
use Rattle.ckd_drive.specs.Work.{DriveState, new_drive}
use Rattle.attached_drives.specs.Drives.{AttachedState}
use Rattle.attached_drives.proofs.Slots.{puts}
use Rattle.attached_drives.proofs.drives.Drives.exchange.Goals as goal

pub invariant_of-self : goal.invariant_of-self
invariant_of-self g c =
    (puts _ _ _ c.self.invariant c.self.view_is (slice_get_within c.args.self.now c.args.place c.requires.attached c.requires.is_there)
    c.as_mut_slice.ensures.value c.in-Some.is).held

pub returns : goal.returns
returns g c =
    let p = puts _ _ _ c.self.invariant c.self.view_is (slice_get_within c.args.self.now c.args.place c.requires.attached
    c.requires.is_there) c.as_mut_slice.ensures.value c.in-Some.is in
    let d : c.deref_mut.result.now ≡ c.in-Some.attached.drive = c.deref_mut.ensures.value
    ∙ ap (λ (u : AttachedState). u.drive) c.attached.view_is in
    record {
      attached = c.in-Some.attached;
      was = p.was;
      becomes = p.becomes ∙ ap (λ d. slice_set c.args.self.now c.args.place (record {
        device = c.attached.inside.device;
        arm =
            c.attached.inside.arm;
        drive = d;
      })) c.exchange.ensures.now
          ∙ ap (λ (u : AttachedState). slice_set c.args.self.now c.args.place (record u { drive = new_drive c.args.image }))
          c.attached.view_is;
      gives = c.exchange.ensures.before ∙ ap (λ (d : DriveState). d.image) d;
      geometry = search rules;
      volume = search rules;
    }
