use Rattle.dasd_subsystem.proofs.Fitting.{same_subsystem, still_fits}
use Rattle.dasd_subsystem.proofs.attaching.attach_image.Goals as goal

pub invariant_of-subsystem : goal.invariant_of-subsystem
invariant_of-subsystem c =
    record {
      fits = still_fits c.args.subsystem.now.storage c.args.subsystem.now.channels c.attach.new.self c.attach.ensures.same
          c.args.subsystem.now.fits;
    }

pub returns-in-Err-clause-stays : goal.returns-in-Err-clause-stays
returns-in-Err-clause-stays c = same_subsystem c.args.subsystem.now c.attach.new.self _ c.in-Err.ensures.stays
