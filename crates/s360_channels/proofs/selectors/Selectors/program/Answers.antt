use Rattle.s360_channels.specs.Asked.{ShowsProgramAt}
use Rattle.s360_channels.proofs.Fitting.{shown}
use Rattle.s360_channels.proofs.selectors.Selectors.program.Goals as goal

pub returns : goal.returns
returns g c = λ s. shown (ShowsProgramAt c.program.result s) c.args.number c.args.self.now s _ c.in_ok-selector.ensures
    (c.program.ensures s)
