use Rattle.std.proofs.Common.{◌≡◌, ◌+◌, ◌*◌, ◌/◌, ◌≤◌, length}
use Rattle.s360_assembler.specs.Parts.{seen, with_pieces}
use Rattle.s360_assembler.proofs.deck.add_pieces.Given as goal

-- what the pieces that are left make of the deck so far is what all of them make of the whole
abbrev pub invariant-loop-left : goal.invariant-loop-left
invariant-loop-left l = record {
  made : with_pieces l.left (seen l.deck) l.place l.rest ≡ with_pieces ((length l.bytes + 127) / 128) (seen l.fn.deck) l.at l.bytes;
  inside : l.place + 128 * l.left ≤ 16777343;
}

abbrev pub decreases-loop-left : goal.decreases-loop-left
decreases-loop-left l = l.left
