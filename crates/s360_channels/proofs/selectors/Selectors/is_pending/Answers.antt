use Rattle.std.proofs.Common.{rules}
use Rattle.s360_channels.proofs.selectors.Selectors.is_pending.Goals as goal

pub returns : goal.returns
returns g c = λ s. record { first = c.first_pending.result; is_first = c.first_pending.ensures s; answers = search rules }
