use Rattle.s360_program.proofs.laws.stands_after_change.Goals as goal
use Rattle.s360_program.proofs.Ties.{after_change}

pub returns : goal.returns
returns c = after_change c.stands_after_walk.ensures
