use Rattle.std.proofs.Common.{◌∙◌}
use Rattle.s360_channels.proofs.Quiet.{not_pending}
use Rattle.s360_channels.proofs.interrupting.still_quiet.Goals as goal

pub returns-clause-here : goal.returns-clause-here
returns-clause-here g c = λ h s m stands. not_pending c.is_pending.result h ∙ c.is_pending.ensures s m stands
