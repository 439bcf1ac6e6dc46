use Rattle.std.proofs.Common.{◌≡◌, drop, map}
use Rattle.std.specs.Cmp.Lexicographic.{pointwise}
use Rattle.std.specs.Str.{bytes_eq}
use Rattle.command_words.proofs.are_same.Given as goal

-- the words to come are the same where all are
abbrev pub invariant-loop-i : goal.invariant-loop-i
invariant-loop-i l = pointwise bytes_eq (map (λ word. word.now) (drop l.i l.these)) (map (λ word. word.now) (drop l.i l.words))
    ≡ pointwise bytes_eq (map (λ word. word.now) l.these) (map (λ word. word.now) l.words)
