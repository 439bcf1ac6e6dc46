use Rattle.std.proofs.Common.{◌≡◌, ◌≤◌, length}
use Rattle.s360_deck.specs.Deck.{events_in_lines, lines_of}
use Rattle.s360_deck.proofs.passes.next_event.Given as goal

-- the lines so far spelled no event
abbrev pub invariant-loop-rest : goal.invariant-loop-rest
invariant-loop-rest l = record {
  spelled : events_in_lines (lines_of l.rest) ≡ events_in_lines (lines_of l.text);
  small : length l.rest ≤ length l.text;
}

abbrev pub decreases-loop-rest : goal.decreases-loop-rest
decreases-loop-rest l = length l.rest
