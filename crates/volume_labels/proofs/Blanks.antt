-- Blanks at the end of bytes.
use Rattle.std.proofs.Common.{◌≡◌, ◌∙◌, ◌+◌, ◌-◌, ◌≤◌, ℕ, List, [], ◌∷◌, ◌++◌, true, length, take, drop, cond, ap, ap₂, sym, arith}
use Rattle.std.proofs.Common.{append_assoc, append-nil, length-take-le, length-drop}
use Rattle.std.specs.List.{list_all, prefix_len, slice_range, suffix_len}
use Rattle.std.proofs.lemmas.List.{drop-take, reverse-append, take-append-drop, take-take}
use Rattle.std.proofs.lemmas.Bool.{and_parts}
use Rattle.volume_labels.specs.Lines.{is_blank}

-- how many blanks stand at the end
abbrev blanks : List ℕ → ℕ
blanks bytes = suffix_len is_blank bytes

one_more : (bytes : List ℕ) (byte : ℕ) → is_blank byte ≡ true → blanks (bytes ++ byte ∷ []) ≡ 1 + blanks bytes
one_more bytes byte blank =
    ap (prefix_len is_blank) (reverse-append bytes (byte ∷ [])) ∙ ap (λ b. cond b (1 + blanks bytes) 0) blank

-- and some more
some_more : (bytes row : List ℕ) → list_all is_blank row ≡ true → blanks (bytes ++ row) ≡ length row + blanks bytes
some_more bytes [] all = omega (arith, ap blanks (append-nil bytes))
some_more bytes (byte ∷ row) all =
    let both = and_parts (is_blank byte) (list_all is_blank row) all in
    ap blanks (sym (append_assoc bytes (byte ∷ []) row)) ∙ some_more (bytes ++ byte ∷ []) row both.1
    ∙ omega (arith, one_more bytes byte both.0)

-- where the last bytes are blanks, those before them end with so many fewer
pub row_of_blanks : (bytes : List ℕ) (size kept : ℕ) → size ≤ kept → kept ≤ length bytes
    → list_all is_blank (slice_range bytes (kept - size) kept) ≡ true
    → suffix_len is_blank (take kept bytes) ≡ size + suffix_len is_blank (take (kept - size) bytes)
row_of_blanks bytes size kept some within all =
    let front = kept - size in
    let row = slice_range bytes front kept in
    let count : length row ≡ size =
    length-take-le (kept - front) (drop front bytes) (omega (arith, length-drop front bytes, some, within)) ∙ omega (arith, some) in
    let rest : drop front (take kept bytes) ≡ row =
    ap (λ n. drop front (take n bytes)) {x = kept} {y = front + (kept - front)} (omega (arith, some))
    ∙ drop-take front (kept - front) bytes in
    let parts : take kept bytes ≡ take front bytes ++ row =
    sym (take-append-drop front (take kept bytes)) ∙ ap₂ (λ (a b : List ℕ). a ++ b) (take-take front kept bytes (omega arith)) rest in
    ap blanks parts ∙ some_more (take front bytes) row all ∙ ap (λ n. n + blanks (take front bytes)) count
