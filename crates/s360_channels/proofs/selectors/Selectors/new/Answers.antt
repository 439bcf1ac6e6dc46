use Rattle.std.proofs.Common.{true}
use Rattle.s360_channels.proofs.Fitting.{none_fit}
use Rattle.s360_channels.proofs.selectors.Selectors.new.Goals as goal

pub invariant_of-result : goal.invariant_of-result
invariant_of-result g c = none_fit _ true
