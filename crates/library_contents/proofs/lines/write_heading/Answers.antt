use Rattle.library_contents.specs.Lines.{heading}
use Rattle.library_contents.proofs.lines.write_heading.Goals as goal

pub returns : goal.returns
unfolding heading
returns g c = c.writeln.ensures.bytes
