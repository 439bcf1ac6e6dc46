use Rattle.dasd_contents.proofs.Written.{after}
use Rattle.dasd_contents.proofs.objects.write_alone.Goals as goal

pub returns : goal.returns
returns g c = after _ _ _ _ _ _ c.in_ok-write_path.ensures c.write_names_alone.ensures
