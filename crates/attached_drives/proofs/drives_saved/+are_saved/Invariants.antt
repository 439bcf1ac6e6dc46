use Rattle.std.proofs.Common.{length}
use Rattle.attached_drives.proofs.drives_saved.+are_saved.Given as goal

abbrev pub decreases-are_saved : goal.decreases-are_saved
decreases-are_saved g l = length l.drives.now
