use Rattle.atomic_save.proofs.Seen.{left_seen}
use Rattle.atomic_save.proofs.laws.something_is_left.Goals as goal

pub returns : goal.returns
returns c = left_seen
