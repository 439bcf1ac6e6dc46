use Rattle.std.proofs.Common.{◌≡◌, drop, map}
use Rattle.command_words.specs.Lines.{value_of}
use Rattle.command_words.proofs.value_of.Given as goal

-- the value that the words to come give is that of all
abbrev pub invariant-loop-i : goal.invariant-loop-i
invariant-loop-i l = value_of (map (λ word. word.now) (drop l.i l.words)) l.name ≡ value_of (map (λ word. word.now) l.words) l.name
