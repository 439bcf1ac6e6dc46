use Rattle.s360_laws.proofs.run_laws.cut_is_end.Goals as goal
use Rattle.s360_laws.proofs.EndStatus.{cut_is_end}

pub returns : goal.returns
returns c = cut_is_end
