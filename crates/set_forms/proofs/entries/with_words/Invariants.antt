use Rattle.std.proofs.Common.{◌≡◌, drop, map}
use Rattle.set_forms.specs.Parsing.{entry_behind}
use Rattle.set_forms.proofs.entries.with_words.Given as goal

-- the words so far and those to come say what all say
abbrev pub invariant-loop-word : goal.invariant-loop-word
invariant-loop-word l = entry_behind l.entry (map (λ w. w.now) (drop l.word-index l.words)) ≡ entry_behind l.fn.entry (map
    (λ w. w.now) l.words)
