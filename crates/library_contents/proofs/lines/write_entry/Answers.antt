use Rattle.library_contents.specs.Lines.{entry_members}
use Rattle.library_contents.proofs.lines.write_entry.Goals as goal

pub returns : goal.returns
unfolding entry_members
returns g c = rw (c.true_or_false-alias.ensures) at c.writeln.ensures.bytes
