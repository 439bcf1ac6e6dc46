use Rattle.dasd_subsystem.proofs.Fitting.{fits_copied, copied_subsystem}
use Rattle.dasd_subsystem.proofs.copying.copied.Goals as goal

pub invariant_of-result : goal.invariant_of-result
invariant_of-result c = record { fits = fits_copied c.args.subsystem.now _ _ c.in_ok-copy.ensures c.in_ok-copy_storage.ensures }

pub returns : goal.returns
returns c = copied_subsystem c.args.subsystem.now _ _ _ c.in_ok-copy.ensures c.in_ok-copy_storage.ensures
