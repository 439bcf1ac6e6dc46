use Rattle.std.proofs.Common.{◌≡◌, ◌+◌, ◌≤◌, [], length}
use Rattle.s360_deck.specs.Deck.{lines_of}
use Rattle.s360_assembler.specs.Assembled.{symbols_behind}
use Rattle.s360_assembler.proofs.assembling.symbols_of.Given as goal

-- the symbols so far and those of the rest are those of the whole text
abbrev pub invariant-loop-rest : goal.invariant-loop-rest
invariant-loop-rest l = record {
  noted : symbols_behind l.files l.symbols.items l.here l.number (lines_of l.rest) ≡ symbols_behind l.files [] 0 1 (lines_of l.text);
  small : l.number + length l.rest ≤ 1 + length l.text;
  inside : l.here ≤ 16777216;
}

abbrev pub decreases-loop-rest : goal.decreases-loop-rest
decreases-loop-rest l = length l.rest
