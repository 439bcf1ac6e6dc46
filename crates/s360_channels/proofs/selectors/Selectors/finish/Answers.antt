use Rattle.std.proofs.Common.{refl}
use Rattle.s360_channels.proofs.selectors.Selectors.finish.Goals as goal

pub returns : goal.returns
returns g c = λ s. record {
  last = _;
  removes = (
    _,
    c.remove.ensures.does s,
    (
      _,
      c.remove-2.ensures.does s,
      (
        _,
        c.remove-3.ensures.does s,
        (
          _,
          c.remove-4.ensures.does s,
          (_, c.remove-5.ensures.does s, (_, c.remove-6.ensures.does s, (_, c.remove-7.ensures.does s, refl))),
        ),
      ),
    ),
  );
  same_storage = refl;
}
