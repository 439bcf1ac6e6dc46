use Rattle.std.proofs.Common.{rules}
use Rattle.std.proofs.Output.{has_written_of_eq}
use Rattle.dasd_volumes.proofs.Formats.{padded_address}
use Rattle.dasd_volumes.proofs.text.PrintedAddressDisplay.fmt.Goals as goal

pub returns-clause-writes : goal.returns-clause-writes
returns-clause-writes g c plain ok = has_written_of_eq _ _ _ _ _ (padded_address c.args.self.now.cylinder c.args.self.now.head)
    (search rules)
