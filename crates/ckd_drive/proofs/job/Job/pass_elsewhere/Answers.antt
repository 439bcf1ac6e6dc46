use Rattle.std.proofs.Common.{◌≡◌, ◌∙◌, None, rules, sym}
use Rattle.ckd_drive.specs.Jobs.{half_done}
use Rattle.ckd_drive.proofs.Searches.{each_by, searched_is, tells_behind, tells_none, tells_other}
use Rattle.ckd_drive.proofs.job.Job.pass_elsewhere.Goals as goal

pub returns-in_default-clause-tells : goal.returns-in_default-clause-tells
returns-in_default-clause-tells g c = λ some few. tells_none (half_done c.args.self.now) c.args.code c.args.wanted.now (search rules)

pub returns-in_default-searched-clause-tells : goal.returns-in_default-searched-clause-tells
returns-in_default-searched-clause-tells g c = λ some few.
    let none : None ≡ c.searched.result = search rules in
    tells_other (half_done c.args.self.now) c.args.code c.args.wanted.now c.in-Some.read c.in-Some.ensures
    (none ∙ rw (c.action_of.ensures, c.aim_of.ensures) at c.searched.ensures)

pub pass_sought-requires : goal.pass_sought-requires
pass_sought-requires g c =
    let k = searched_is _ _ c.in-Some-searched.kind (rw (c.action_of.ensures, c.aim_of.ensures) at c.in-Some-searched.ensures) in
    record { arm = c.requires.arm; aim = k.1; search = k.0; extent = sym c.extent-extent.ensures }

pub returns-clause-unlike : goal.returns-clause-unlike
returns-clause-unlike g c =
    each_by (half_done c.args.self.now) c.args.code c.args.wanted.now c.in-Some.read c.in-Some-searched.kind c.pass_sought.result.0
    c.pass_sought.result.1 c.in-Some.ensures (rw (c.action_of.ensures, c.aim_of.ensures) at c.in-Some-searched.ensures)
    c.pass_sought.ensures.unlike

pub returns-clause-tells : goal.returns-clause-tells
returns-clause-tells g c = λ some few.
    tells_behind (half_done c.args.self.now) c.args.code c.args.wanted.now c.in-Some.read c.in-Some-searched.kind _
    c.pass_sought.result.0 c.pass_sought.result.1 c.in-Some.ensures
    (rw (c.action_of.ensures, c.aim_of.ensures) at c.in-Some-searched.ensures) c.pass_sought.ensures.unlike
    (c.pass_sought.ensures.tells some few)
