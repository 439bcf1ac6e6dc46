use Rattle.s360_deck.proofs.laws.runs_are_serial.Goals as goal
use Rattle.s360_deck.proofs.Promised.{is_serial}

pub returns : goal.returns
returns c = is_serial
