use Rattle.std.proofs.Common.{rules, tests, refl, sym, subst, ◌∙◌}
use Rattle.s360_laws.specs.Events as machine
use Rattle.s360_trace.specs.Happens.{Happens}
use Rattle.s360_trace.proofs.Joins.{none_yet, one_more, over_before, rest_of, all_of}
use Rattle.s360_trace.proofs.Watches.{one_unit_more}
use Rattle.s360_trace.proofs.watching.step.Goals as goal

pub loop-init : goal.loop-init
loop-init g c = record {
  happens = λ m stands. none_yet m c.args.channel.now stands;
  within = λ m stands. (refl, refl);
  most = search (rules, tests);
}

pub returns-then-not-runs-clause-happens : goal.returns-then-not-runs-clause-happens
returns-then-not-runs-clause-happens g c m stands =
    subst (λ n. Happens (machine.StepBy n) m (machine.Stepped c.loop.done) c.args.channel.now c.loop.channel)
    (rest_of c.loop.counter c.args.units c.loop-test.true)
    (over_before m c.loop.counter _ c.loop.done _ _ stands.sound (c.loop.invariant.happens m stands) (λ now is. sym (c.runs.ensures now is)
    ∙ c.if-not-runs.true))

pub loop-preserved : goal.loop-preserved
loop-preserved g c = record {
  happens = λ m stands.
      one_more m c.loop.counter c.loop.done c.unit-done.result _ _ _ stands.sound (c.loop.invariant.happens m stands)
      (λ now is. sym (c.runs.ensures now is) ∙ c.if-not-runs.false) (λ now is. c.unit-done.ensures.happens now is);
  within = λ m stands.
      let now = (c.loop.invariant.happens m stands).does.stands in
      let one = c.unit-done.ensures.one _ now (sym (c.runs.ensures _ now) ∙ c.if-not-runs.false) in
      one_unit_more g.W.Watcher.sees _ _ _ _ c.loop.done c.unit-done.result _ _ (c.loop.invariant.within m stands) one
      (λ now is. c.unit-done.ensures.happens now is) c.look.ensures;
  most = search (rules, tests);
}

pub returns-clause-happens : goal.returns-clause-happens
returns-clause-happens g c m stands =
    subst (λ n. Happens (machine.StepBy n) m (machine.Stepped c.loop.done) c.args.channel.now c.loop.channel)
    (all_of c.loop.counter c.args.units c.loop.auto.counter-end c.loop-test.false)
    (c.loop.invariant.happens m stands)
