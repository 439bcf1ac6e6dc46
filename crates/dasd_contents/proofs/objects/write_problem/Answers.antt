use Rattle.dasd_contents.specs.Objects.{finding_members}
use Rattle.dasd_contents.proofs.objects.write_problem.Goals as goal

pub returns : goal.returns
unfolding finding_members
returns g c = rw (c.kind_of-kind.ensures) at c.writeln.ensures.bytes
