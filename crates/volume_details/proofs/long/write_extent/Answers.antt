use Rattle.volume_details.specs.Long.{extent_line}
use Rattle.volume_details.proofs.long.write_extent.Goals as goal

pub returns : goal.returns
unfolding extent_line
returns g c = rw (c.type_text-kind.ensures) at c.writeln.ensures.bytes
