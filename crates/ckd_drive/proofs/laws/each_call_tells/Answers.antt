use Rattle.ckd_drive.proofs.Reported.{each_call_tells}
use Rattle.ckd_drive.proofs.laws.each_call_tells.Goals as goal

pub returns : goal.returns
returns c = each_call_tells
