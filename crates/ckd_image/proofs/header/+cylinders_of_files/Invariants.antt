use Rattle.std.proofs.Common.{length}
use Rattle.ckd_image.proofs.header.+cylinders_of_files.Given as goal

abbrev pub decreases-cylinders_of_files : goal.decreases-cylinders_of_files
decreases-cylinders_of_files l = length l.files.now
