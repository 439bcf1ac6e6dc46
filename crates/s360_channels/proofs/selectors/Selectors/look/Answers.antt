use Rattle.s360_channels.proofs.Quiet.{fit_quiet}
use Rattle.s360_channels.proofs.selectors.Selectors.look.Goals as goal

pub invariant_of-self : goal.invariant_of-self
invariant_of-self g c = fit_quiet _ _ _ _ c.self.invariant (rw (← c.self.view_is) at c.none_pends-self-inside.ensures)
