use Rattle.s360_program.proofs.laws.seen_of_run.Goals as goal
use Rattle.s360_program.proofs.Ties.{seen}

pub returns : goal.returns
returns c = seen
