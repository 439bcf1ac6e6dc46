use Rattle.std.proofs.Common.{◌≤◌}
use Rattle.s360_laws.specs.Events as machine
use Rattle.s360_laws.specs.Machine.{Machine}
use Rattle.s360_channel.specs.Channel.{StandsFor}
use Rattle.s360_trace.specs.Happens.{Happens}
use Rattle.s360_trace.specs.Looks.{SeesUnits}
use Rattle.s360_trace.proofs.watching.step.Given as goal

-- so many steps of one unit have done what one step of as many units does, and the watcher was told each
abbrev pub invariant-loop : goal.invariant-loop
invariant-loop g l = record {
  happens : (m : Machine) → StandsFor l.initial.channel m → Happens (machine.StepBy l.counter) m (machine.Stepped l.done) l.initial.channel
      l.channel;
  within : (m : Machine) → StandsFor l.initial.channel m
      → SeesUnits g.W.Watcher.sees l.done l.initial.channel l.channel l.initial.watcher l.watcher;
  most : l.done ≤ l.counter;
}
