use Rattle.std.proofs.Common.{◌∙◌, sym}
use Rattle.attached_drives.proofs.Slots.{held_at, never_none, removed}
use Rattle.attached_drives.proofs.drives.Drives.take.Goals as goal

pub unreachable-requires : goal.unreachable-requires
unreachable-requires g c = never_none c.args.self.now c.args.place c.requires (sym c.in-None.is
    ∙ held_at _ c.self.invariant c.self.view_is c.requires c.remove.ensures.value)

pub invariant_of-self : goal.invariant_of-self
invariant_of-self g c = (removed _ _ c.self.invariant c.self.view_is c.remove.ensures.items).0

pub returns : goal.returns
returns g c = record {
  was = sym c.in-Some.is ∙ held_at _ c.self.invariant c.self.view_is c.requires c.remove.ensures.value;
  becomes = (removed _ _ c.self.invariant c.self.view_is c.remove.ensures.items).1;
}
