use Rattle.atomic_save.proofs.Bytes.{same_after}
use Rattle.atomic_save.proofs.laws.read_while_written.Goals as goal

pub returns : goal.returns
returns c = same_after
