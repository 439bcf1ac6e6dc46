use Rattle.std.proofs.Common.{sym}
use Rattle.ckd_drive.specs.Jobs.{half_done}
use Rattle.ckd_drive.proofs.Starts.{lost_begins, zero_begins, zero_ends}
use Rattle.ckd_drive.proofs.job.Job.start_here.Goals as goal

pub returns-in-Err : goal.returns-in-Err
returns-in-Err g c _ same =
    rw same (lost_begins _ c.args.mark.now c.requires.idle _ c.requires.well (half_done c.leave.new.self) c.leave.new.mark
    c.begin_command.new.registers c.in-ToCylinderZero.next
    (sym (rw c.in-ToCylinderZero.is at c.begin_command.ensures)) c.in-Err.ensures.loses)

pub returns-in-Some : goal.returns-in-Some
returns-in-Some g c _ same =
    rw same (zero_begins _ c.args.mark.now c.requires.idle _ c.requires.well (half_done c.leave.new.self) c.leave.new.mark
    c.begin_command.new.registers c.in-Some.next
    (sym (rw (c.in-ToCylinderZero.is, c.in-Some.is) at c.begin_command.ensures)) c.in-Ok.ensures.leaves)

pub returns-in-None : goal.returns-in-None
returns-in-None g c _ same =
    rw same (zero_ends _ c.args.mark.now c.requires.idle _ c.requires.well (half_done c.leave.new.self) c.leave.new.mark
    c.begin_command.new.registers
    (sym (rw (c.in-ToCylinderZero.is, c.in-None.is) at c.begin_command.ensures)) c.in-Ok.ensures.leaves)
