use Rattle.std.proofs.Common.{◌≡◌, ℕ, List, [], drop, map, Bor, subst}
use Rattle.std.proofs.lemmas.List.{drop_all}
use Rattle.admitted_words.specs.Volumes.{after_files}
use Rattle.admitted_words.proofs.Volumes.{no_word}
use Rattle.admitted_words.proofs.runs.after_files.Goals as goal

pub returns-then-next-words : goal.returns-then-next-words
returns-then-next-words c =
    let i = c.loop-path.path-index in
    let device = c.args.device in
    let paths = c.args.paths.now in
    let words = c.args.words.now in
    let whole = after_files device (map (λ path. path.now) paths) (map (λ word. word.now) (drop c.args.at words)) in
    let none_left : drop c.loop-path.next words ≡ [] = drop_all c.loop-path.next words c.if-next-words.true in
    no_word device paths i whole c.loop-path-test.true
    (subst (λ (l : List (Bor (List ℕ))). after_files device (map (λ path. path.now) (drop i paths)) (map (λ word. word.now) l) ≡ whole)
    none_left c.loop-path.invariant)
