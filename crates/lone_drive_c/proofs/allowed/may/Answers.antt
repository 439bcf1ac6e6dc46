use Rattle.std.proofs.Common.{◌∙◌, ap}
use Rattle.lone_drive_c.specs.Phases.{may_at}
use Rattle.lone_drive_c.proofs.Phases.{by_phase}
use Rattle.lone_drive_c.proofs.allowed.may.Goals as goal

-- what the phase says is what the drive allows
pub returns : goal.returns
returns c = c.may_at.ensures ∙ ap may_at c.phase.ensures.phase ∙ by_phase c.args.drive.now.work
