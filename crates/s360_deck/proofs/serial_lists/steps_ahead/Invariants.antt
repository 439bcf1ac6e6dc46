use Rattle.std.proofs.Common.{◌≡◌, length}
use Rattle.s360_laws.specs.SerialLists.{steps_ahead}
use Rattle.s360_deck.specs.Serial.{exchanges_seen}
use Rattle.s360_deck.proofs.serial_lists.steps_ahead.Given as goal

-- what the rest answers is what the list answers
abbrev pub invariant-loop-rest : goal.invariant-loop-rest
invariant-loop-rest l = steps_ahead (exchanges_seen l.rest) ≡ steps_ahead (exchanges_seen l.list)

abbrev pub decreases-loop-rest : goal.decreases-loop-rest
decreases-loop-rest l = length l.rest
