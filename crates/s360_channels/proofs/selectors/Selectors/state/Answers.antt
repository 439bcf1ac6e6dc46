use Rattle.std.proofs.Common.{Some}
use Rattle.s360_channels.specs.Asked.{ShowsAt}
use Rattle.s360_channels.proofs.Fitting.{shown}
use Rattle.s360_channels.proofs.selectors.Selectors.state.Goals as goal

pub returns : goal.returns
returns g c = λ s. shown (ShowsAt (Some c.state.result) s) c.args.number c.args.self.now s _ c.in_ok-selector.ensures (c.state.ensures s)
