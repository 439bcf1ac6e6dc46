use Rattle.ckd_drive.proofs.Reported.{each_trail_tells}
use Rattle.ckd_drive.proofs.laws.each_trail_tells.Goals as goal

pub returns : goal.returns
returns c = each_trail_tells
