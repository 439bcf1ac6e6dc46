use Rattle.std.proofs.Common.{length}
use Rattle.dasd_jobs.proofs.opened.+place_of.Given as goal

abbrev pub decreases-place_of : goal.decreases-place_of
decreases-place_of l = length l.tracks.now
