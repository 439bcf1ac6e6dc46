use Rattle.dasd_contents.specs.Objects.{name_members}
use Rattle.dasd_contents.proofs.objects.write_names.Goals as goal

pub returns : goal.returns
unfolding name_members
returns g c = c.write.ensures.bytes
