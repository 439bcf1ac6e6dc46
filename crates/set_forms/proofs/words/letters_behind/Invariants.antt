use Rattle.std.proofs.Common.{◌≡◌, drop}
use Rattle.set_forms.specs.Words.{letters_behind}
use Rattle.set_forms.proofs.words.letters_behind.Given as goal

-- the letters so far and those to come say what all say
abbrev pub invariant-loop-letter : goal.invariant-loop-letter
invariant-loop-letter l = letters_behind l.format (drop l.letter-index l.letters) ≡ letters_behind l.form l.letters
