use Rattle.std.proofs.Common.{length}
use Rattle.attached_drives.proofs.drives.+lowest_arrived.Given as goal

abbrev pub decreases-lowest_arrived : goal.decreases-lowest_arrived
decreases-lowest_arrived g l = length l.drives.now
