use Rattle.s360_laws.proofs.run_laws.no_fault_nothing_told.Goals as goal
use Rattle.s360_laws.proofs.UnsavedTracks.{no_fault_nothing_told}

pub returns : goal.returns
returns c = no_fault_nothing_told
