use Rattle.std.proofs.Common.{◌∙◌}
use Rattle.s360_trace.proofs.Watches.{does_one}
use Rattle.s360_trace.proofs.watching.unit.Goals as goal

pub returns-clause-one : goal.returns-clause-one
returns-clause-one g c m stands works =
    c.from.ensures ∙ does_one m c.step.result _ _ stands.sound works (c.step.ensures.does m stands) c.step.ensures.most
