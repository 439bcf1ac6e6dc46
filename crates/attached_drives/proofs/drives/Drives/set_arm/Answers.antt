use Rattle.std.proofs.Common.{None, ◌∙◌, ap, slice_set}
use Rattle.attached_drives.specs.Drives.{AttachedState}
use Rattle.attached_drives.proofs.Slots.{lent_at, never_none, puts}
use Rattle.attached_drives.proofs.drives.Drives.set_arm.Goals as goal

pub unreachable-requires : goal.unreachable-requires
unreachable-requires g c = never_none c.args.self.now c.args.place c.requires
    (lent_at _ None c.self.invariant c.self.view_is c.requires c.as_mut_slice.ensures.value c.in-None.is)

pub invariant_of-self : goal.invariant_of-self
invariant_of-self g c = (puts _ _ _ c.self.invariant c.self.view_is c.requires c.as_mut_slice.ensures.value c.in-Some.is).held

pub returns : goal.returns
returns g c = let p = puts _ _ _ c.self.invariant c.self.view_is c.requires c.as_mut_slice.ensures.value c.in-Some.is in record {
  attached = _;
  was = p.was;
  becomes = p.becomes ∙ ap (λ (v : AttachedState). slice_set c.args.self.now c.args.place (record v { arm = c.args.arm }))
      c.attached.view_is;
}
