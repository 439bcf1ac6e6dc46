-- A drive allows what its phase says.
use Rattle.std.proofs.Common.{◌≡◌, refl, ℕ, ◌==◌, List, length, Bool, true, false, not, Option, Some, None, if◌then◌else◌}
use Rattle.ckd_command.specs.Tables.{action_of, is_giving}
use Rattle.ckd_drive.specs.Work.{Work, Idle, Over, Looking, Passing, phase_of, phase_of_transfer}
use Rattle.lone_drive_c.specs.declared.allowed.Allowance.{Allowance}
use Rattle.lone_drive_c.specs.Phases.{may_at, may_now}

-- a command whose area is found gives bytes or takes them
abbrev passing : (gives : Bool) (passed left : ℕ) → Allowance
passing gives passed left = record {
  begin = false;
  look = true;
  end = true;
  settle = passed == 0;
  give = if gives then Some left else None;
  take = if not gives then Some left else None;
}

at_passing : (gives : Bool) (passed left : ℕ) → may_at (phase_of_transfer gives passed left) ≡ passing gives passed left
at_passing true passed left = refl
at_passing false passed left = refl

pub by_phase : (w : Work) → may_at (phase_of w) ≡ may_now w
by_phase Idle = refl
by_phase (Over ending) = refl
by_phase (Looking opened) = refl
by_phase (Passing opened passed left) = at_passing (is_giving (action_of opened.command)) (length passed) left
