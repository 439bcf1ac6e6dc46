use Rattle.std.proofs.Common.{◌≡◌, ◌++◌, drop, map}
use Rattle.s360_deck.specs.Deck.{joined}
use Rattle.s360_deck.proofs.parsing.stored_bytes.Given as goal

-- the digits so far and those of the other words are all digits
abbrev pub invariant-loop-word : goal.invariant-loop-word
invariant-loop-word l = l.digits.items ++ joined (map (λ w. w.now) (drop l.word-index l.words)) ≡ joined (map (λ w. w.now) l.words)
