use Rattle.std.proofs.lemmas.Option.{slice_get_within}
use Rattle.attached_drives.proofs.Slots.{puts, rests_at}
use Rattle.attached_drives.proofs.drives.Drives.reset_at.Goals as goal

pub invariant_of-self : goal.invariant_of-self
invariant_of-self g c =
    (puts _ _ _ c.self.invariant c.self.view_is (slice_get_within c.args.self.now c.args.place c.requires.attached c.requires.is_there)
    c.as_mut_slice.ensures.value c.in-Some.is).held

pub returns : goal.returns
returns g c = rests_at (puts _ _ _ c.self.invariant c.self.view_is (slice_get_within c.args.self.now c.args.place c.requires.attached
    c.requires.is_there) c.as_mut_slice.ensures.value c.in-Some.is) c.reset.ensures
