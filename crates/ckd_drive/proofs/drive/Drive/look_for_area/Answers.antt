use Rattle.std.proofs.Common.{refl}
use Rattle.ckd_drive.specs.Jobs.{half_done, parts_held}
use Rattle.ckd_drive.specs.declared.answers.DriveStage.TheVariants.{Looking}
use Rattle.ckd_drive.proofs.Reported.{look_reports}
use Rattle.ckd_drive.proofs.drive.Drive.look_for_area.Goals as goal
use Rattle.ckd_drive.proofs.Looks.{has_looked}

pub invariant_of-self : goal.invariant_of-self
invariant_of-self g c = rw c.new-self-inside.ensures c.look-self-inside.ensures.stands

pub returns : goal.returns
returns g c =
    let i = c.self.inside in
    let l = c.look-self-inside in
    let new = c.new-self-inside in
    let x = has_looked (parts_held i.job i.mark Looking) (parts_held l.new.self l.new.mark l.result) new.result.bytes c.args.self.now
    (rw c.in-Looking.is at c.self.view_is) new.ensures l.ensures in
    record {
      state = x.state;
      answer = c.looked.ensures (record (half_done l.new.self) { passed = new.result.bytes }) refl;
      calls = x.calls;
      reported = look_reports c.args.self.now _ x.state x.calls x.at_hand;
    }
