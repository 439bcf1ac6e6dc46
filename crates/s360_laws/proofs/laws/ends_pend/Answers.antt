use Rattle.s360_laws.proofs.laws.ends_pend.Goals as goal
use Rattle.s360_laws.proofs.LedgerLists.{ends_pend}

pub returns : goal.returns
returns c = ends_pend
