use Rattle.std.proofs.Common.{◌∙◌}
use Rattle.ckd_drive.specs.Jobs.{parts_held}
use Rattle.ckd_drive.proofs.Reported.{begin_reports}
use Rattle.ckd_drive.proofs.Starts.{has_begun, well_begun}
use Rattle.ckd_drive.proofs.Standing.{parts_in}
use Rattle.ckd_drive.proofs.drive.Drive.begin.Goals as goal

pub start-self-inside-requires : goal.start-self-inside-requires
start-self-inside-requires g c =
    let b = well_begun (parts_in c.self.inside) c.args.self.now c.args.code c.self.invariant c.self.view_is c.requires in
    record { idle = rw (← b.0) c.self.invariant; well = b.1 }

pub invariant_of-self : goal.invariant_of-self
invariant_of-self g c = c.start-self-inside.ensures.stands

pub returns : goal.returns
returns g c =
    let s = c.start-self-inside in
    let x = has_begun (parts_in c.self.inside) (parts_held s.new.self s.new.mark s.result) c.args.self.now c.args.code c.self.view_is
    c.requires s.ensures in
    let answer = c.begun.ensures ∙ x.answer in
    let k = x.comes in
    record { state = k.state; answer = answer; calls = k.calls; reported = begin_reports _ _ c.args.code _ k.state answer k.calls }
