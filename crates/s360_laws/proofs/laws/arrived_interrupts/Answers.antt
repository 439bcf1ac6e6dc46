use Rattle.s360_laws.proofs.laws.arrived_interrupts.Goals as goal
use Rattle.s360_laws.proofs.Arms.{arrived_interrupts}

pub returns : goal.returns
returns c = arrived_interrupts
