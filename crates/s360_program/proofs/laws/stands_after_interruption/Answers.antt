use Rattle.s360_program.proofs.laws.stands_after_interruption.Goals as goal
use Rattle.s360_program.proofs.Ties.{after_interruption}

pub returns : goal.returns
returns c = after_interruption c.stands_after_walk.ensures
