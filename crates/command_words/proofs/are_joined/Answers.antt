use Rattle.std.proofs.Common.{◌≡◌, ℕ, true, false, ◌&&◌, List, [], ◌∷◌, ◌++◌, length, map, take, drop, Bor, refl}
use Rattle.std.specs.Cmp.Lexicographic.{pointwise}
use Rattle.std.specs.Str.{bytes_eq}
use Rattle.command_words.proofs.are_joined.Goals as goal

-- words are those of two lists, one after the other, where the first of them are those of the one, and the rest those of the other
joined : (these words others : List (Bor (List ℕ))) →
    pointwise bytes_eq (map (λ word. word.now) these) (map (λ word. word.now) words ++ map (λ word. word.now) others)
    ≡ (pointwise bytes_eq (map (λ word. word.now) (take (length words) these)) (map (λ word. word.now) words)
    && pointwise bytes_eq (map (λ word. word.now) (drop (length words) these)) (map (λ word. word.now) others))
joined [] [] others = refl
joined [] (w ∷ words) others = refl
joined (t ∷ these) [] others = refl
joined (t ∷ these) (w ∷ words) others =
    let more = joined these words others in
    elim (bytes_eq t.now w.now) as (λ b. (b
    && pointwise bytes_eq (map (λ word. word.now) these) (map (λ word. word.now) words ++ map (λ word. word.now) others))
    ≡ ((b && pointwise bytes_eq (map (λ word. word.now) (take (length words) these)) (map (λ word. word.now) words))
    && pointwise bytes_eq (map (λ word. word.now) (drop (length words) these)) (map (λ word. word.now) others)))
    [ true ↦ more | false ↦ refl ]

pub returns-then-are_same : goal.returns-then-are_same
returns-then-are_same c =
    rw (
      joined c.args.these.now c.args.words.now c.args.others.now,
      ← c.split_at.ensures.front,
      ← c.split_at.ensures.back,
      ← c.are_same.ensures,
      c.if-are_same.true,
    )
    c.are_same-then-are_same.ensures

pub returns-else-are_same : goal.returns-else-are_same
returns-else-are_same c =
    rw (
      joined c.args.these.now c.args.words.now c.args.others.now,
      ← c.split_at.ensures.front,
      ← c.split_at.ensures.back,
      ← c.are_same.ensures,
      c.if-are_same.false,
    )
    refl
