use Rattle.std.proofs.Common.{length, Bor, List, ℕ}
use Rattle.std.proofs.lemmas.List.{take-map}
use Rattle.command_words.proofs.begin_with.Goals as goal

pub returns-then-words-front : goal.returns-then-words-front
returns-then-words-front c =
    rw (take-map (λ (word : Bor (List ℕ)). word.now) (length c.args.front.now) c.args.words.now) c.are_same.ensures
