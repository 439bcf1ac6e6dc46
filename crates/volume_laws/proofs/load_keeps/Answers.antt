use Rattle.volume_laws.proofs.load_keeps.Goals as goal
use Rattle.volume_laws.proofs.Loads.{load_keeps}

pub returns : goal.returns
returns c = load_keeps
