use Rattle.library_contents.specs.Lines.{name_members}
use Rattle.library_contents.proofs.lines.write_names.Goals as goal

pub returns : goal.returns
unfolding name_members
returns g c = c.write.ensures.bytes
