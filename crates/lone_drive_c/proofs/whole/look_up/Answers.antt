use Rattle.std.proofs.Common.{◌≡◌, ◌∙◌, ap, inl, inr, refl, sym, pos}
use Rattle.ckd_drive.specs.Work.{answer_of_look}
use Rattle.lone_drive_c.specs.Codes.{look_code}
use Rattle.lone_drive_c.proofs.Looks.{failed_other, found_other, one_look_more, works_on}
use Rattle.lone_drive_c.proofs.whole.look_up.Goals as goal

pub loop-passed-preserved : goal.loop-passed-preserved
loop-passed-preserved c = let e = c.look.ensures in record {
  passes = one_look_more c.loop-passed.passed c.args.drive.now c.loop-passed.drive c.look.new.self c.loop-passed.invariant.passes (record {
    told = ap look_code (sym c.in-Passed.is ∙ e.answer);
    state = e.state;
    calls = e.calls;
    reported = e.reported;
  });
  works = works_on c.look.new.self.work c.look.result c.in-Passed.is e.answer;
}
