use Rattle.std.proofs.Common.{length}
use Rattle.attached_drives.proofs.drives_saved.+entry.Given as goal

abbrev pub decreases-entry : goal.decreases-entry
decreases-entry l = length l.entries.now
