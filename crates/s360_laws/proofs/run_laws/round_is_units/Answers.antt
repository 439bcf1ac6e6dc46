use Rattle.s360_laws.proofs.run_laws.round_is_units.Goals as goal
use Rattle.s360_laws.proofs.Rounds.{round_is_units}

pub returns : goal.returns
returns c = round_is_units
