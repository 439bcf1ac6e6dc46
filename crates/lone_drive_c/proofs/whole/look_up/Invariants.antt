use Rattle.std.proofs.Common.{◌≡◌, true}
use Rattle.ckd_drive.specs.Work.{is_working}
use Rattle.lone_drive_c.specs.Words.{PassesIndex}
use Rattle.lone_drive_c.proofs.whole.look_up.Given as goal

-- so many looks have passed the index, and the command looks on
abbrev pub invariant-loop-passed : goal.invariant-loop-passed
invariant-loop-passed l = record {
  passes : PassesIndex l.passed l.fn.drive l.drive;
  works : is_working l.drive.work ≡ true;
}
