use Rattle.ckd_drive.specs.Jobs.{half_done}
use Rattle.ckd_drive.proofs.Searches.{passes_some, written_none, written_some}
use Rattle.ckd_drive.proofs.drive.Drive.pass_by.Goals as goal

pub returns-then-passed-eq0-clause-written : goal.returns-then-passed-eq0-clause-written
returns-then-passed-eq0-clause-written g c = λ written some few.
    let i = c.self.inside in
    let by = c.pass_by-passed in
    written_none (half_done i.job) i.mark i.stage c.args.code c.args.wanted.now by.result.0 c.args.most by.result.1 c.args.self.now
    (c.in-Idle.is, c.self.view_is, c.self.invariant) (c.if-passed-eq0.true, few, by.ensures.tells some) written

pub returns-clause-passes : goal.returns-clause-passes
returns-clause-passes g c =
    let i = c.self.inside in
    let by = c.pass_by-passed in
    passes_some (half_done i.job) i.mark i.stage c.args.code c.args.wanted.now by.result.0 by.result.1 c.args.self.now
    c.if-passed-eq0.false c.in-Idle.is c.self.view_is by.ensures.unlike

pub returns-clause-written : goal.returns-clause-written
returns-clause-written g c = λ written some few.
    let i = c.self.inside in
    let by = c.pass_by-passed in
    written_some (half_done i.job) i.mark i.stage c.args.code c.args.wanted.now by.result.0 by.result.1 c.args.self.now
    (c.in-Idle.is, c.self.view_is, c.self.invariant) c.if-passed-eq0.false (by.ensures.tells some few) written
