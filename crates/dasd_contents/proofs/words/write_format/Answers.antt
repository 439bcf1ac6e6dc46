use Rattle.std.proofs.Common.{rules}
use Rattle.std.proofs.Output.{has_written_of_eq}
use Rattle.dasd_contents.proofs.Spelled.{unknown_format}
use Rattle.dasd_contents.proofs.words.write_format.Goals as goal

pub returns : goal.returns
returns g c plain ok = has_written_of_eq _ _ _ _ _ (unknown_format c.args.format) (search rules)
