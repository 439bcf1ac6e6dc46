use Rattle.std.proofs.Common.{◌≡◌, ◌++◌, drop, map, false}
use Rattle.command_words.specs.Lines.{operands_among}
use Rattle.command_words.proofs.operands.Given as goal

-- the operands so far and those of the words to come are those of all
abbrev pub invariant-loop-i : goal.invariant-loop-i
invariant-loop-i l =
    map (λ word. word.now) l.operands.items
    ++ operands_among (map (λ name. name.now) l.valued) l.is_value (map (λ word. word.now) (drop l.i l.words))
    ≡ operands_among (map (λ name. name.now) l.valued) false (map (λ word. word.now) l.words)
