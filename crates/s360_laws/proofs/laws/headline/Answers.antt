use Rattle.s360_laws.proofs.laws.headline.Goals as goal
use Rattle.s360_laws.proofs.Headlines.{headline}

pub returns : goal.returns
returns c = headline
