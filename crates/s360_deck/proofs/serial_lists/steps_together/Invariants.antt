use Rattle.std.proofs.Common.{◌≡◌, ◌≤◌, ◌+◌, ◌*◌, ◌++◌, map, length}
use Rattle.s360_laws.specs.SerialLists.{steps_joined}
use Rattle.s360_laws.specs.Seen.{event_seen}
use Rattle.s360_deck.specs.Serial.{exchanges_seen, events_in}
use Rattle.s360_deck.proofs.serial_lists.steps_together.Given as goal

-- the events so far, and the rest behind the steps that stand together, are the whole list
abbrev pub invariant-loop-rest : goal.invariant-loop-rest
invariant-loop-rest l = record {
  joined : map event_seen l.events.items ++ events_in (steps_joined l.units (exchanges_seen l.rest))
      ≡ events_in (steps_joined 0 (exchanges_seen l.list));
  few : l.units + 4294967295 * length l.rest ≤ 4294967295 * length l.list;
}

abbrev pub decreases-loop-rest : goal.decreases-loop-rest
decreases-loop-rest l = length l.rest
