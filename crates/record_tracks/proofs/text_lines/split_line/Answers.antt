use Rattle.std.proofs.lemmas.{Bool.ne_eqb, List.take_all}
use Rattle.std.proofs.Common.{◌≡◌, ◌≢◌, ◌<◌, ◌+◌, ◌-◌, length-drop, ℕ, zero, suc, ◌==◌, true, false, List, [], ◌∷◌, length, take}
use Rattle.std.proofs.Common.{drop, get_or, ap, refl, arith}
use Rattle.record_tracks.specs.Lines.{lines_of}
use Rattle.record_tracks.proofs.text_lines.split_line.Goals as goal

ends_here : (b : ℕ) (bs : List ℕ) → b ≡ 10 → lines_of (b ∷ bs) ≡ [] ∷ lines_of bs
unfolding lines_of
ends_here b bs same = let feed : (b == 10) ≡ true = grind arith in rw feed refl

goes_on : (b : ℕ) (bs : List ℕ) (l : List ℕ) (ls : List (List ℕ)) → b ≢ 10 → lines_of bs ≡ l ∷ ls → lines_of (b ∷ bs) ≡ (b ∷ l) ∷ ls
unfolding lines_of
goes_on b bs l ls other e = let no_feed : (b == 10) ≡ false = grind arith in rw (no_feed, e) refl

-- the first line feed ends the first line
first_line : (text : List ℕ) (end : ℕ) → end < length text → ((k : ℕ) → k < end → get_or text k 0 ≢ 10) → get_or text end 0 ≡ 10
    → lines_of text ≡ take end text ∷ lines_of (drop (suc end) text)
first_line [] end inside none is = absurd (omega arith)
first_line (b ∷ bs) zero inside none is = ends_here b bs is
first_line (b ∷ bs) (suc end) inside none is = goes_on b bs (take end bs) (lines_of (drop (suc end) bs)) (none 0 (omega arith))
    (first_line bs end (omega arith) (λ k h. none (suc k) (omega arith)) is)

-- where there is no line feed, all of it is the first line
last_line : (text : List ℕ) → 0 < length text → ((k : ℕ) → k < length text → get_or text k 0 ≢ 10) → lines_of text ≡ text ∷ lines_of []
unfolding lines_of
last_line [] some none = absurd (omega arith)
last_line (b ∷ []) some none = let no_feed : (b == 10) ≡ false = ne_eqb b 10 (none 0 (omega arith)) in rw no_feed refl
last_line (b ∷ d ∷ bs) some none = goes_on b (d ∷ bs) (d ∷ bs) (lines_of []) (none 0 (omega arith))
    (last_line (d ∷ bs) (omega arith) (λ k h. none (suc k) (omega arith)))

-- the same, with what is left as the code has it
split_at : (text : List ℕ) (end : ℕ) → end < length text → ((k : ℕ) → k < end → get_or text k 0 ≢ 10) → get_or text end 0 ≡ 10
    → lines_of text ≡ take end text ∷ lines_of (take (length text - (end + 1)) (drop (end + 1) text))
split_at text end inside none is =
    let one = take_all (length text - (end + 1)) (drop (end + 1) text) (omega (arith, length-drop (end + 1) text)) in
    cc (first_line text end inside none is, ap (λ n. take end text ∷ lines_of (drop n text)) {x = suc end} {y = end + 1} (omega arith))

pub returns-then-text-end-eq-LINE_FEED-clause-lines :
    goal.returns-then-text-end-eq-LINE_FEED-clause-lines
returns-then-text-end-eq-LINE_FEED-clause-lines c =
    split_at c.args.text.now c.loop-end.end c.loop-end-test.true c.loop-end.invariant c.if-text-end-eq-LINE_FEED.true

pub returns-clause-lines : goal.returns-clause-lines
returns-clause-lines c = last_line c.args.text.now c.requires (λ k h. c.loop-end.invariant k (omega arith))
