use Rattle.std.proofs.Common.{refl}
use Rattle.ckd_drive.specs.Jobs.{half_done}
use Rattle.ckd_drive.proofs.Fills.{filled_absorbs}
use Rattle.ckd_drive.proofs.job.Job.fill_on.Goals as goal

pub put-requires-clause-records : goal.put-requires-clause-records
put-requires-clause-records g c =
    (filled_absorbs (half_done c.args.self.now) c.args.bytes.now c.args.window c.args.written c.requires.may c.requires.at).records

pub returns : goal.returns
returns g c =
    let k = filled_absorbs (half_done c.args.self.now) c.args.bytes.now c.args.window c.args.written c.requires.may c.requires.at in
    rw (c.behind.ensures, c.put.ensures) record { absorbs = k.absorbs; stays = refl }
