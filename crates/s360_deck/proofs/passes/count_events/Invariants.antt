use Rattle.std.proofs.Common.{◌≡◌, ◌+◌, ◌≤◌, ◌<◌, List, [], length}
use Rattle.s360_laws.specs.declared.events.Event.{Event}
use Rattle.s360_deck.specs.Deck.{events_behind, lines_of}
use Rattle.s360_deck.proofs.passes.count_events.Given as goal

-- as many events so far, and behind them those of the rest: they are those of the whole text
abbrev pub invariant-loop-words : goal.invariant-loop-words
invariant-loop-words l = record {
  spelled : (events : List Event) × (length events ≡ l.count)
      × (events_behind events l.number (lines_of l.rest) ≡ events_behind [] 1 (lines_of l.text));
  fewer : l.count < l.number;
  small : l.number + length l.rest ≤ 1 + length l.text;
}

abbrev pub decreases-loop-words : goal.decreases-loop-words
decreases-loop-words l = length l.rest
