use Rattle.std.proofs.Common.{rules}
use Rattle.dasd_run.proofs.Writes.{write_told}
use Rattle.dasd_run.proofs.vtoc.checked_contents.Goals as goal

pub returns-in_err-contents-clause-fault : goal.returns-in_err-contents-clause-fault
returns-in_err-contents-clause-fault g c = search (rules, write_told c.in_err-contents.field-0.0 c.in_err-contents.ensures.fault)
