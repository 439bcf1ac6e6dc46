use Rattle.std.proofs.Common.{length}
use Rattle.dasd_jobs.proofs.lengths.+lacking.Given as goal

abbrev pub decreases-lacking : goal.decreases-lacking
decreases-lacking l = length l.tracks.now
