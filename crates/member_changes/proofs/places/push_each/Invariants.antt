use Rattle.std.proofs.Common.{◌≡◌, ◌++◌, drop}
use Rattle.member_changes.specs.Places.{places_in, places_from}
use Rattle.member_changes.proofs.places.push_each.Given as goal

-- the places so far, and then those from here on
abbrev pub invariant-loop-number : goal.invariant-loop-number
invariant-loop-number l =
    l.fn.places.items ++ places_in l.track l.view ≡ l.places.items ++ places_from l.track l.number (drop l.number l.view.records)
