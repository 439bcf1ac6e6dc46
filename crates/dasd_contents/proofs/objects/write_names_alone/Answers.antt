use Rattle.dasd_contents.specs.Objects.{alone_members}
use Rattle.dasd_contents.proofs.objects.write_names_alone.Goals as goal

pub returns : goal.returns
unfolding alone_members
returns g c = c.writeln.ensures.bytes
