use Rattle.std.proofs.Common.{◌≡◌, ◌++◌, length}
use Rattle.s360_laws.specs.SerialLists.{that_change}
use Rattle.s360_deck.specs.Serial.{exchanges_seen, exchanges_of, AllFit}
use Rattle.s360_deck.proofs.serial_lists.what_changed.Given as goal

-- the changes so far and those of the rest are all changes
abbrev pub invariant-loop-events : goal.invariant-loop-events
invariant-loop-events l = record {
  fit : AllFit l.events l.answers;
  kept : exchanges_seen l.list.items ++ that_change (exchanges_of l.events l.answers) ≡ that_change (exchanges_of l.fn.events l.fn.answers);
}

abbrev pub decreases-loop-events : goal.decreases-loop-events
decreases-loop-events l = length l.events
