use Rattle.std.proofs.Common.{rules}
use Rattle.dasd_files.proofs.Overwrites.{same_bytes}
use Rattle.dasd_files.proofs.volume_file.overwrite.Goals as goal

-- the bytes that stand there are those that are written
pub returns-then-eq-clause-put : goal.returns-then-eq-clause-put
returns-then-eq-clause-put c = same_bytes c.args.held.now c.args.bytes.now c.args.at (search rules)
