use Rattle.std.proofs.Common.{◌-◌, ◌≤◌}
use Rattle.ckd_position.specs.declared.areas.Position.TheVariants.{At}
use Rattle.ckd_drive.specs.Jobs.{half_done, IsUnlike}
use Rattle.ckd_drive.specs.Searches.{Turns, turned_to}
use Rattle.ckd_drive.proofs.job.Job.pass_on.Given as goal

abbrev pub invariant-loop-passed : goal.invariant-loop-passed
invariant-loop-passed g l = record {
  few : l.passed ≤ l.most;
  turns : Turns (λ p. IsUnlike (turned_to p (half_done l.self)) l.sought.command l.sought.kind l.wanted) l.self.registers.position
      l.passed (At l.area);
}

abbrev pub decreases-loop-passed : goal.decreases-loop-passed
decreases-loop-passed g l = l.most - l.passed
