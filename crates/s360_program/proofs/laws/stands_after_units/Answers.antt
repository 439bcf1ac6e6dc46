use Rattle.s360_program.proofs.laws.stands_after_units.Goals as goal
use Rattle.s360_program.proofs.Ties.{after_units}

pub returns : goal.returns
returns c = after_units c.stands_after_walk.ensures
