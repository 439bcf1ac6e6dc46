use Rattle.s360_channels.proofs.Available.{stays_available}
use Rattle.s360_channels.proofs.selectors.Selectors.is_available.Goals as goal

pub returns-in-Zero : goal.returns-in-Zero
returns-in-Zero g c = λ is. stays_available c.args.number c.args.self.now _ c.tch.result c.in-Some.ensures c.in-Zero.is c.tch.ensures
