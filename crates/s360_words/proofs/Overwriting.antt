-- What stands in a list after some of its places were overwritten.
use Rattle.std.proofs.Common.{◌≡◌, ℕ, zero, suc, ◌+◌, ◌≤◌, List, [], ◌∷◌, ◌++◌, length, take, drop, refl, sym, ap, arith, zero-add, suc-add}
use Rattle.std.proofs.Common.{drop-drop}
use borrow.Rule.Slice.PartMut.{post_of}
use Rattle.s360_words.specs.Storage.{overwritten}

-- nothing written changes nothing
pub overwritten-none : (xs : List ℕ) (at : ℕ) (new : List ℕ) → length new ≡ 0 → overwritten xs at new ≡ xs
overwritten-none [] at new h = refl
overwritten-none (x ∷ xs) zero [] h = refl
overwritten-none (x ∷ xs) zero (y ∷ ys) h = absurd (omega (arith, h))
overwritten-none (x ∷ xs) (suc at) new h = ap (λ l. x ∷ l) (overwritten-none xs at new h)

-- inside the list: what is before, what was written, and what is behind
pub overwritten-parts : (xs : List ℕ) (at : ℕ) (new : List ℕ) → at + length new ≤ length xs → overwritten xs at new ≡ take at xs
    ++ (new ++ drop (at + length new) xs)
overwritten-parts [] zero [] h = refl
overwritten-parts [] zero (y ∷ ys) h = absurd (omega (arith, h))
overwritten-parts [] (suc at) new h = absurd (omega (arith, h))
overwritten-parts (x ∷ xs) zero [] h = refl
overwritten-parts (x ∷ xs) zero (y ∷ ys) h =
    let rest : overwritten xs zero ys ≡ ys ++ drop (zero + length ys) xs = overwritten-parts xs zero ys (omega (arith, h)) in
    rw (zero-add (suc (length ys))) (ap (λ l. y ∷ l) (rw (← zero-add (length ys)) rest))
overwritten-parts (x ∷ xs) (suc at) new h =
    let rest = overwritten-parts xs at new (omega (arith, h)) in
    rw (suc-add at (length new)) (ap (λ l. x ∷ l) rest)

-- what a copy into a part of the list leaves, where the part has as many places as are written
pub overwritten-part : (xs : List ℕ) (at : ℕ) (new old written : List ℕ) (count : ℕ)
    → old ≡ xs → written ≡ new → count ≡ length new → at + length new ≤ length xs
    → take at old ++ (written ++ post_of at count old) ≡ overwritten xs at new
overwritten-part xs at new old written count same copied counted h =
    rw (same, copied, counted, drop-drop (length new) at xs) (sym (overwritten-parts xs at new h))

-- the list keeps its length, so what is put into storage leaves its size
pub length-overwritten : (xs : List ℕ) (at : ℕ) (new : List ℕ) → length (overwritten xs at new) ≡ length xs
length-overwritten [] at new = refl
length-overwritten (x ∷ xs) zero [] = refl
length-overwritten (x ∷ xs) zero (y ∷ ys) = ap suc (length-overwritten xs zero ys)
length-overwritten (x ∷ xs) (suc at) new = ap suc (length-overwritten xs at new)
