use Rattle.s360_channels.proofs.Fitting.{none_beyond}
use Rattle.s360_channels.proofs.selectors.Selectors.place.Goals as goal

pub returns-then-place-ge7-clause-missing : goal.returns-then-place-ge7-clause-missing
returns-then-place-ge7-clause-missing g c = λ h. rw (← c.self.view_is) (none_beyond _ c.args.number _ c.self.invariant c.if-place-ge7.true)
