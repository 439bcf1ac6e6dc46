use Rattle.s360_channels.proofs.Several.{headline_of_each}
use Rattle.s360_channels.proofs.laws.headline_of_each.Goals as goal

pub returns : goal.returns
returns c = headline_of_each
