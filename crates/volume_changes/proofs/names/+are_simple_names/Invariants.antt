use Rattle.std.proofs.Common.{length}
use Rattle.volume_changes.proofs.names.+are_simple_names.Given as goal

abbrev pub decreases-are_simple_names : goal.decreases-are_simple_names
decreases-are_simple_names l = length l.text.now
