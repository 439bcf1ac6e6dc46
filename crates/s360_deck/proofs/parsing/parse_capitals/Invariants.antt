use Rattle.std.proofs.Common.{◌≡◌, ◌+◌, ◌≤◌, [], length}
use Rattle.s360_deck.specs.Deck.{events_behind, lines_of}
use Rattle.s360_deck.proofs.parsing.parse_capitals.Given as goal

-- the events so far and those of the rest are those of the whole text
abbrev pub invariant-loop-words : goal.invariant-loop-words
invariant-loop-words l = record {
  spelled : events_behind l.events.items l.number (lines_of l.rest) ≡ events_behind [] 1 (lines_of l.text);
  small : l.number + length l.rest ≤ 1 + length l.text;
}

abbrev pub decreases-loop-words : goal.decreases-loop-words
decreases-loop-words l = length l.rest
