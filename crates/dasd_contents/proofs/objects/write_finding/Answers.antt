use Rattle.dasd_contents.proofs.Written.{after}
use Rattle.dasd_contents.proofs.objects.write_finding.Goals as goal

pub returns : goal.returns
returns g c = after _ _ _ _ _ _ c.in_ok-write_path.ensures c.write_problem.ensures
