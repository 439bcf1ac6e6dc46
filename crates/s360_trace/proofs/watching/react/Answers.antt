use Rattle.std.proofs.Common.{sym, subst}
use Rattle.s360_laws.specs.Events as machine
use Rattle.s360_laws.specs.Seen.{event_seen}
use Rattle.s360_trace.specs.Happens.{Happens}
use Rattle.s360_trace.specs.Looks.{SeesWithin}
use Rattle.s360_trace.proofs.watching.react.Goals as goal

pub returns-in-Step-clause-happens : goal.returns-in-Step-clause-happens
returns-in-Step-clause-happens g c m stands =
    subst (λ e. Happens (event_seen e) m (machine.Stepped c.step.result) c.args.channel.now c.step.new.channel) (sym c.in-Step.is)
    (subst (λ n. Happens (machine.StepBy n) m (machine.Stepped c.step.result) c.args.channel.now c.step.new.channel) c.from.ensures
    (c.step.ensures.happens m stands))

pub returns-in-Run-clause-happens : goal.returns-in-Run-clause-happens
returns-in-Run-clause-happens g c m stands =
    subst (λ e. Happens (event_seen e) m (machine.Stepped c.step-in-Run.result) c.args.channel.now c.step-in-Run.new.channel)
    (sym c.in-Run.is) (c.step-in-Run.ensures.happens m stands)

pub returns-in-Step-clause-within : goal.returns-in-Step-clause-within
returns-in-Step-clause-within g c m stands =
    let answer = machine.Stepped c.step.result in
    let new = c.step.new in
    subst (λ e. SeesWithin g.W.Watcher.sees (event_seen e) answer c.args.channel.now new.channel c.args.watcher.now new.watcher)
    (sym c.in-Step.is) (c.step.ensures.within m stands)

pub returns-in-Run-clause-within : goal.returns-in-Run-clause-within
returns-in-Run-clause-within g c m stands =
    let answer = machine.Stepped c.step-in-Run.result in
    let new = c.step-in-Run.new in
    subst (λ e. SeesWithin g.W.Watcher.sees (event_seen e) answer c.args.channel.now new.channel c.args.watcher.now new.watcher)
    (sym c.in-Run.is) (c.step-in-Run.ensures.within m stands)
