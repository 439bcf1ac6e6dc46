use Rattle.s360_laws.proofs.laws.ends_at_most_once.Goals as goal
use Rattle.s360_laws.proofs.LedgerLists.{at_most_once}

pub returns : goal.returns
returns c = at_most_once
