use Rattle.std.proofs.Common.{refl}
use Rattle.ckd_position.specs.declared.areas.Kind.TheVariants.{AnyCount}
use Rattle.ckd_sense.specs.declared.commands.Command.TheVariants.{SearchIdEqual}
use Rattle.ckd_drive.specs.Jobs.{half_done}
use Rattle.ckd_drive.proofs.Searches.{each_by, identifier, tells_behind}
use Rattle.ckd_drive.proofs.job.Job.pass_by.Goals as goal

pub returns-in-49-clause-unlike : goal.returns-in-49-clause-unlike
returns-in-49-clause-unlike g c =
    let read = identifier c.args.code c.in-49.is in
    each_by (half_done c.args.self.now) c.args.code c.args.wanted.now (record { command = SearchIdEqual; multi_track = read.0 }) AnyCount
    c.pass_unlike.result.0 c.pass_unlike.result.1 read.1 refl c.pass_unlike.ensures.unlike

pub returns-in-49-clause-tells : goal.returns-in-49-clause-tells
returns-in-49-clause-tells g c = λ some few.
    let read = identifier c.args.code c.in-49.is in
    tells_behind (half_done c.args.self.now) c.args.code c.args.wanted.now (record { command = SearchIdEqual; multi_track = read.0 })
    AnyCount _ c.pass_unlike.result.0 c.pass_unlike.result.1 read.1 refl c.pass_unlike.ensures.unlike
    (c.pass_unlike.ensures.tells some few)
