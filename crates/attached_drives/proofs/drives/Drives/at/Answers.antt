use Rattle.std.proofs.Common.{◌∙◌, ap, sym, slice_index_or}
use Rattle.attached_drives.proofs.Slots.{never_none, held_at}
use Rattle.attached_drives.proofs.drives.Drives.at.Goals as goal

pub unreachable-requires : goal.unreachable-requires
unreachable-requires g c = never_none c.args.self.now c.args.place c.requires (sym c.in-None.is
    ∙ held_at _ c.self.invariant c.self.view_is c.requires (c.index-as_slice-place.is
    ∙ ap (λ l. slice_index_or l c.args.place c.index-as_slice-place.result) c.as_slice.ensures.value))

pub returns : goal.returns
returns g c = sym c.in-Some.is ∙ held_at _ c.self.invariant c.self.view_is c.requires (c.index-as_slice-place.is
    ∙ ap (λ l. slice_index_or l c.args.place c.index-as_slice-place.result) c.as_slice.ensures.value)
