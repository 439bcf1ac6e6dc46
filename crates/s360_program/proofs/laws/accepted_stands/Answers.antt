use Rattle.s360_program.proofs.laws.accepted_stands.Goals as goal
use Rattle.s360_program.proofs.Ties.{accepted}

pub returns : goal.returns
returns c = accepted c.stands_at_start.ensures c.stands_after_walk.ensures
