use Rattle.s360_laws.specs.Events.{Reset}
use Rattle.s360_channels.proofs.Fitting.{calls_behind, does_channel, fit_behind, here, loud, same_storage, some_channel, still_alone}
use Rattle.s360_channels.proofs.selectors.Selectors.reset.Goals as goal

pub invariant_of-self-2 : goal.invariant_of-self-2
invariant_of-self-2 g c =
    let h = here _ c.in_ok-place.ensures.there c.self.invariant c.in-Some.is in
    let d = c.reset.ensures in
    fit_behind h d.same (still_alone h d.same (does_channel Reset (some_channel h) (d.does _))) loud loud

pub returns-clause-does : goal.returns-clause-does
returns-clause-does g c = λ s.
    let d = c.reset.ensures in
    let h = here _ c.in_ok-place.ensures.there c.self.invariant c.in-Some.is in
    calls_behind h _ _ c.self.view_is d.same (same_storage s) (record { does = d.does s; calls = d.calls s })
