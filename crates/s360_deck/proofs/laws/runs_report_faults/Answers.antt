use Rattle.s360_deck.proofs.laws.runs_report_faults.Goals as goal
use Rattle.s360_deck.proofs.Promised.{reports_faults}

pub returns : goal.returns
returns c = reports_faults
