use Rattle.dasd_contents.specs.Objects.{label_members}
use Rattle.dasd_contents.proofs.objects.write_contents.Goals as goal

pub returns : goal.returns
unfolding label_members
returns g c = c.writeln.ensures.bytes
