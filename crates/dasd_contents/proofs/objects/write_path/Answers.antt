use Rattle.dasd_contents.specs.Objects.{path_text}
use Rattle.dasd_contents.proofs.objects.write_path.Goals as goal

pub returns : goal.returns
unfolding path_text
returns g c = c.write.ensures.bytes
