use Rattle.std.proofs.Common.{arith}
use Rattle.s360_laws.specs.Events.{StepBy}
use Rattle.s360_channels.proofs.Fitting.{calls_behind, does_channel, fit_behind, here, lent, still_lent}
use Rattle.s360_channels.proofs.selectors.Selectors.step.Goals as goal

pub step-done-requires : goal.step-done-requires
step-done-requires g c =
    let h = here _ c.in_ok-place.ensures.there c.self.invariant c.in-Some.is in
    (omega arith, (lent h c.self.view_is c.are_over.ensures).is_over.size)

pub invariant_of-self-2 : goal.invariant_of-self-2
invariant_of-self-2 g c =
    let h = here _ c.in_ok-place.ensures.there c.self.invariant c.in-Some.is in
    let found = lent h c.self.view_is c.are_over.ensures in
    let d = c.step-done.ensures in
    fit_behind h d.same (still_lent found d.same d.keeps (does_channel (StepBy c.args.units) found.is_over.channel d.does))
    c.still_quiet-self-inside.ensures.before c.still_quiet-self-inside.ensures.here

pub returns-clause-does : goal.returns-clause-does
returns-clause-does g c =
    let d = c.step-done.ensures in
    let h = here _ c.in_ok-place.ensures.there c.self.invariant c.in-Some.is in
    calls_behind h _ _ c.self.view_is d.same d.keeps (record { steps = record { does = d.does; calls = d.calls }; most = d.most })
