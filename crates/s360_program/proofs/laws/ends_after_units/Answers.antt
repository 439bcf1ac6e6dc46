use Rattle.s360_program.proofs.laws.ends_after_units.Goals as goal
use Rattle.s360_program.proofs.Ties.{ends_after}

pub returns : goal.returns
returns c = ends_after c.ends_after_walk.ensures c.ended_stays.ensures
