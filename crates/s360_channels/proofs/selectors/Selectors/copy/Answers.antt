use Rattle.std.proofs.Common.{sym, subst}
use Rattle.s360_channels.specs.Inside.{AllFit}
use Rattle.s360_channels.proofs.selectors.Selectors.copy.Goals as goal

-- the copies fit as the channels do
pub invariant_of-result : goal.invariant_of-result
invariant_of-result g c = subst (AllFit c.self.inside.size c.self.inside.quiet) (sym c.in_ok-copy_list.ensures) c.self.invariant
