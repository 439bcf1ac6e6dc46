use Rattle.library_contents.proofs.Added.{after}
use Rattle.library_contents.proofs.lines.write_object.Goals as goal

pub returns : goal.returns
returns g c = after _ _ _ _ _ _ c.in_ok-write_names.ensures c.write_entry.ensures
