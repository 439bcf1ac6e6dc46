use Rattle.dasd_subsystem.proofs.Fitting.{same_subsystem, still_fits}
use Rattle.dasd_subsystem.proofs.subsystem.Subsystem.detach_files.Goals as goal

pub invariant_of-self : goal.invariant_of-self
invariant_of-self c =
    record {
      fits = still_fits c.args.self.now.storage c.args.self.now.channels c.detach.new.self c.detach.ensures.same c.args.self.now.fits;
    }

-- the files hold the image of the drive
pub returns-in-Ok-clause-detached : goal.returns-in-Ok-clause-detached
returns-in-Ok-clause-detached c = λ s.
    record { image = c.in-Ok.image; of_files = c.of.ensures; detaches = c.in-Ok.ensures.detached s }

pub returns-in-Err-clause-stays : goal.returns-in-Err-clause-stays
returns-in-Err-clause-stays c = same_subsystem c.args.self.now c.detach.new.self _ c.in-Err.ensures.stays
