use Rattle.std.proofs.Common.{◌≡◌, drop, map, Some}
use Rattle.admitted_words.specs.Volumes.{after_volumes}
use Rattle.admitted_words.proofs.runs.are_named.Given as goal

-- what all volumes leave of all words is what the volumes to come leave of the words to come
abbrev pub invariant-loop-volume : goal.invariant-loop-volume
invariant-loop-volume l =
    after_volumes (drop l.volume-index l.volumes) (Some (map (λ word. word.now) (drop l.at l.words)))
    ≡ after_volumes l.volumes (Some (map (λ word. word.now) l.words))
