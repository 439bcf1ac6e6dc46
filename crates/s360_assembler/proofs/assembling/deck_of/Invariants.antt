use Rattle.std.proofs.Common.{◌≡◌, ◌+◌, ◌≤◌, length}
use Rattle.s360_deck.specs.Deck.{lines_of}
use Rattle.s360_assembler.specs.Parts.{seen}
use Rattle.s360_assembler.specs.Assembled.{new_deck, deck_behind}
use Rattle.s360_assembler.proofs.assembling.deck_of.Given as goal

-- the deck so far and what the rest makes of it are the deck of the whole text
abbrev pub invariant-loop-rest : goal.invariant-loop-rest
invariant-loop-rest l = record {
  written : deck_behind l.known.files.now l.known.symbols.now (seen l.deck) l.here l.number (lines_of l.rest)
      ≡ deck_behind l.known.files.now l.known.symbols.now new_deck 0 1 (lines_of l.text);
  small : l.number + length l.rest ≤ 1 + length l.text;
  inside : l.here ≤ 16777216;
}

abbrev pub decreases-loop-rest : goal.decreases-loop-rest
decreases-loop-rest l = length l.rest
