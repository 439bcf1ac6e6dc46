use Rattle.std.proofs.Common.{◌≡◌}
use Rattle.s360_deck.proofs.parsing.find_words.Given as goal

-- the words so far
abbrev pub invariant-loop-word : goal.invariant-loop-word
invariant-loop-word l = l.words.items ≡ l.yielded
