use Rattle.std.proofs.Common.{sym, ◌∙◌}
use Rattle.attached_drives.proofs.Places.{none_is_some}
use Rattle.s360_channels.proofs.Fitting.{fit_set, here, none_removed, removed_behind}
use Rattle.s360_channels.proofs.selectors.Selectors.remove.Goals as goal

pub returns-in_default-clause-does : goal.returns-in_default-clause-does
returns-in_default-clause-does g c = λ s. none_removed c.args.number c.args.self.now s (c.place.ensures.missing c.in_default.is)

pub invariant_of-self-2 : goal.invariant_of-self-2
invariant_of-self-2 g c =
    fit_set _ _ _ c.self.inside.list c.in-Some.place _ c.self.invariant (λ q. q) (λ d e. none_is_some (sym c.take.ensures.after ∙ e))

pub returns-clause-does : goal.returns-clause-does
returns-clause-does g c = λ s.
    let h = here _ c.in-Some.ensures.there c.self.invariant (sym c.in_ok-selector.ensures.value) in
    removed_behind h s c.self.view_is c.take.ensures.after (c.end.ensures s)
