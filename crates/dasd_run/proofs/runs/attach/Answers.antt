use Rattle.s360_channel.specs.declared.faults.AttachFault.TheVariants.{UnitTaken, Full, OutOfMemory}
use Rattle.dasd_run.proofs.Built.{is_refused}
use Rattle.dasd_run.proofs.runs.attach.Goals as goal

pub returns-in-Err-UnitTaken-default-clause-not_attached : goal.returns-in-Err-UnitTaken-default-clause-not_attached
returns-in-Err-UnitTaken-default-clause-not_attached g c =
    is_refused UnitTaken c.args.before.now c.args.channel.now c.args.volume.now _ _ c.requires (c.in-Ok.image, c.in-Ok.ensures.opens)
    (rw c.in-Err-UnitTaken-default.field-0-0-is at c.in-Err-UnitTaken-default.ensures.refused)

pub returns-in-Err-Full-default-clause-not_attached : goal.returns-in-Err-Full-default-clause-not_attached
returns-in-Err-Full-default-clause-not_attached g c =
    is_refused Full c.args.before.now c.args.channel.now c.args.volume.now _ _ c.requires (c.in-Ok.image, c.in-Ok.ensures.opens)
    (rw c.in-Err-Full-default.field-0-0-is at c.in-Err-Full-default.ensures.refused)

pub returns-clause-not_attached : goal.returns-clause-not_attached
returns-clause-not_attached g c =
    is_refused (OutOfMemory _) c.args.before.now c.args.channel.now c.args.volume.now _ _ c.requires (c.in-Ok.image, c.in-Ok.ensures.opens)
    (rw c.in-Err-OutOfMemory-default.field-0-0-is at c.in-Err-OutOfMemory-default.ensures.refused)
