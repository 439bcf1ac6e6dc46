use Rattle.std.proofs.Common.{◌≡◌, drop, map}
use Rattle.admitted_words.specs.Volumes.{after_files}
use Rattle.admitted_words.proofs.runs.after_files.Given as goal

-- what all paths leave of the words is what the paths to come leave of the words to come
abbrev pub invariant-loop-path : goal.invariant-loop-path
invariant-loop-path l =
    after_files l.device (map (λ path. path.now) (drop l.path-index l.paths)) (map (λ word. word.now) (drop l.next l.words))
    ≡ after_files l.device (map (λ path. path.now) l.paths) (map (λ word. word.now) (drop l.at l.words))
