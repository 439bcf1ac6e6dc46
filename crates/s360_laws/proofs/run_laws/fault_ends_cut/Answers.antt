use Rattle.s360_laws.proofs.run_laws.fault_ends_cut.Goals as goal
use Rattle.s360_laws.proofs.FaultsMet.{fault_ends_cut}

pub returns : goal.returns
returns c = fault_ends_cut
