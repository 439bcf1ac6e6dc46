use Rattle.s360_laws.proofs.laws.steps_split.Goals as goal
use Rattle.s360_laws.proofs.StepLaws.{splits}

pub returns : goal.returns
returns c = splits
