use Rattle.std.proofs.Common.{◌≡◌, ◌++◌, map, replicate}
use Rattle.s360_laws.specs.Events.{StepBy}
use Rattle.s360_laws.specs.Seen.{event_seen}
use Rattle.s360_deck.proofs.serial_lists.push_steps.Given as goal

-- so many whole steps are there
abbrev pub invariant-loop : goal.invariant-loop
invariant-loop l = map event_seen l.events.items ≡ map event_seen l.initial.events.items ++ replicate l.counter (StepBy 65535)
