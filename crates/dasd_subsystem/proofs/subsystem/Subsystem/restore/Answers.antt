use Rattle.dasd_subsystem.proofs.Fitting.{same_subsystem}
use Rattle.dasd_subsystem.proofs.subsystem.Subsystem.restore.Goals as goal

pub returns-in-Err-restore-clause-stays : goal.returns-in-Err-restore-clause-stays
returns-in-Err-restore-clause-stays c = same_subsystem c.args.self.now c.restore.new.self _ c.in-Err-restore.ensures.stays
