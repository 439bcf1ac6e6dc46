use Rattle.std.proofs.Common.{refl}
use Rattle.ckd_drive.specs.Jobs.{half_done}
use Rattle.ckd_drive.proofs.Formats.{made_absorbs}
use Rattle.ckd_drive.proofs.job.Job.make.Goals as goal

pub format-requires-clause-can : goal.format-requires-clause-can
format-requires-clause-can g c =
    let due = c.in-Due in
    (made_absorbs (half_done c.args.self.now) c.args.bytes.now due.place due.number due.count c.requires.works due.is c.requires.room).can

pub returns-clause-takes : goal.returns-clause-takes
returns-clause-takes g c =
    let due = c.in-Due in
    let k = made_absorbs (half_done c.args.self.now) c.args.bytes.now due.place due.number due.count c.requires.works due.is c.requires.room
    in
    rw (c.of-self.ensures, c.bytes.ensures, c.buffer.ensures.slot, c.behind.ensures, c.format.ensures)
    record { absorbs = k.absorbs; stays = refl }
