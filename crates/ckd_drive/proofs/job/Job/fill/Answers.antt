use Rattle.std.proofs.Common.{refl, rules}
use Rattle.ckd_command.specs.Tables.{extent_of}
use Rattle.ckd_drive.specs.Jobs.{half_done}
use Rattle.ckd_drive.proofs.Replaces.{fills}
use Rattle.ckd_drive.proofs.job.Job.fill.Goals as goal

pub replace-requires-clause-there : goal.replace-requires-clause-there
replace-requires-clause-there g c =
    let half = half_done c.args.self.now in
    let k = fills half c.args.bytes.now c.args.window c.args.no_data c.requires.may c.requires.at (search rules) in
    record { extent = extent_of half.opened.command; area = k.area; is = k.at }

pub replace-requires-clause-first : goal.replace-requires-clause-first
replace-requires-clause-first g c =
    (fills (half_done c.args.self.now) c.args.bytes.now c.args.window c.args.no_data c.requires.may c.requires.at (search rules)).le

pub returns : goal.returns
returns g c =
    let half = half_done c.args.self.now in
    let k = fills half c.args.bytes.now c.args.window c.args.no_data c.requires.may c.requires.at (search rules) in
    rw (c.of-self.ensures, c.bytes.ensures, c.buffer.ensures.slot, c.behind.ensures)
    rw (c.replace.ensures.slot (extent_of half.opened.command) k.area k.at)
    record { absorbs = k.absorbs c.replace.ensures.fitted; stays = refl }
