use Rattle.dasd_contents.proofs.Written.{after}
use Rattle.dasd_contents.proofs.lines.write_set.Goals as goal

pub returns : goal.returns
returns g c = after _ _ _ _ _ _ c.in_ok-write_names.ensures (after _ _ _ _ _ _ c.in_ok-write_format.ensures c.write_numbers.ensures)
