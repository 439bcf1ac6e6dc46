use Rattle.std.proofs.Common.{refl}
use Rattle.s360_channels.proofs.selectors.Selectors.step_all.Goals as goal

pub returns-clause-does : goal.returns-clause-does
returns-clause-does g c = (
  _,
  c.step.ensures.does,
  (
    _,
    c.step-2.ensures.does,
    (
      _,
      c.step-3.ensures.does,
      (
        _,
        c.step-4.ensures.does,
        (_, c.step-5.ensures.does, (_, c.step-6.ensures.does, (_, c.step-7.ensures.does, refl))),
      ),
    ),
  ),
)
