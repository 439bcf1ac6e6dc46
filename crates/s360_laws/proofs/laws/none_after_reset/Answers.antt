use Rattle.s360_laws.proofs.laws.none_after_reset.Goals as goal
use Rattle.s360_laws.proofs.LedgerLists.{none_after_reset}

pub returns : goal.returns
returns c = none_after_reset
