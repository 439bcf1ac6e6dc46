use Rattle.s360_channels.proofs.Quiet.{none_first}
use Rattle.s360_channels.proofs.selectors.Selectors.poll.Goals as goal

pub returns-then-self-clause-first : goal.returns-then-self-clause-first
returns-then-self-clause-first g c = λ s. none_first c.args.mask s c.self.view_is c.self.invariant c.if-self.true
