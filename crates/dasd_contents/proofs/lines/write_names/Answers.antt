use Rattle.std.proofs.Common.{rules}
use Rattle.dasd_contents.specs.Lines.{name_columns}
use Rattle.dasd_contents.proofs.lines.write_names.Goals as goal

pub returns : goal.returns
unfolding name_columns
returns g c = search rules
