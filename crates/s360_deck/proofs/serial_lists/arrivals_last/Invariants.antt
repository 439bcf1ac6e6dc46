use Rattle.std.proofs.Common.{◌≡◌, ◌++◌, [], false, length}
use Rattle.s360_laws.specs.SerialLists.{arrivals_last}
use Rattle.s360_deck.specs.Serial.{exchanges_seen}
use Rattle.s360_deck.proofs.serial_lists.arrivals_last.Given as goal

-- what is ordered, and the rest behind what is held, are the whole list in order
abbrev pub invariant-loop-rest : goal.invariant-loop-rest
invariant-loop-rest l =
    exchanges_seen l.ordered.items ++ arrivals_last l.inside (exchanges_seen l.held.items) (exchanges_seen l.rest) ≡ arrivals_last false []
    (exchanges_seen l.list)

abbrev pub decreases-loop-rest : goal.decreases-loop-rest
decreases-loop-rest l = length l.rest
