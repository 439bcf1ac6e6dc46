use Rattle.std.specs.Prelude.{option_map}
use Rattle.s360_channels.specs.Asked.{ShowsDriveAtWorkAt}
use Rattle.s360_channels.proofs.Fitting.{shown}
use Rattle.s360_channels.proofs.selectors.Selectors.drive_at_work.Goals as goal

pub returns : goal.returns
returns g c = λ s.
    shown (ShowsDriveAtWorkAt (option_map (λ d. d.now) c.drive_at_work.result) s) c.args.number c.args.self.now s _
    c.in_ok-selector.ensures (c.drive_at_work.ensures s)
