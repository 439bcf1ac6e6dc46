use Rattle.std.proofs.Common.{◌≡◌, drop, map}
use Rattle.command_words.specs.Lines.{has_option}
use Rattle.command_words.proofs.has_option.Given as goal

-- the option is among the words to come where it is among all
abbrev pub invariant-loop-word : goal.invariant-loop-word
invariant-loop-word l =
    has_option (map (λ word. word.now) (drop l.word-index l.words)) l.name ≡ has_option (map (λ word. word.now) l.words) l.name
