use Rattle.std.proofs.Common.{◌≡◌, drop, map}
use Rattle.command_words.specs.Lines.{is_one_of}
use Rattle.command_words.proofs.is_one_of.Given as goal

-- the word is one of the names to come where it is one of all
abbrev pub invariant-loop-name : goal.invariant-loop-name
invariant-loop-name l =
    is_one_of (map (λ name. name.now) (drop l.name-index l.names)) l.word ≡ is_one_of (map (λ name. name.now) l.names) l.word
