use Rattle.std.proofs.Common.{refl}
use Rattle.s360_channels.proofs.selectors.Selectors.reset_all.Goals as goal

pub returns-clause-does : goal.returns-clause-does
returns-clause-does g c = λ s. (
  _,
  c.reset.ensures.does s,
  (
    _,
    c.reset-2.ensures.does s,
    (
      _,
      c.reset-3.ensures.does s,
      (
        _,
        c.reset-4.ensures.does s,
        (_, c.reset-5.ensures.does s, (_, c.reset-6.ensures.does s, (_, c.reset-7.ensures.does s, refl))),
      ),
    ),
  ),
)
