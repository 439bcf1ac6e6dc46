use Rattle.s360_laws.proofs.run_laws.writes_under_arm.Goals as goal
use Rattle.s360_laws.proofs.Writes.{writes_under_arm}

pub returns : goal.returns
returns c = writes_under_arm
