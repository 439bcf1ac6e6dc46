use Rattle.std.proofs.KnownBytes.{Appends-nil}
use Rattle.dasd_contents.proofs.lines.write_block.Goals as goal

pub returns-then-not-is_data_set : goal.returns-then-not-is_data_set
returns-then-not-is_data_set g c = rw (← c.is_data_set.ensures, c.if-not-is_data_set.true) (Appends-nil _)
