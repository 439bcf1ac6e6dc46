-- Lists that are the same at each place.
use Rattle.std.proofs.Common.{◌≡◌, ℕ, zero, suc, ◌<◌, ◌≤◌, List, [], ◌∷◌, length, slice_get, Some, refl, arith}
use Rattle.atomic_save.specs.declared.changes.FileId.{FileId}

head : (x y : FileId) → Some x ≡ Some y → x ≡ y
head x y e = cc

pub same_lists : (xs ys : List FileId) (m : ℕ) → length xs ≤ m → length ys ≤ m → ((k : ℕ) → k < m → slice_get xs k ≡ slice_get ys k)
    → xs ≡ ys
same_lists [] [] m p q same = refl
same_lists [] (y ∷ ys) m p q same = let e = same 0 (omega (arith, q)) in absurd cc
same_lists (x ∷ xs) [] m p q same = let e = same 0 (omega (arith, p)) in absurd cc
same_lists (x ∷ xs) (y ∷ ys) zero p q same = absurd (omega (arith, p))
same_lists (x ∷ xs) (y ∷ ys) (suc m) p q same =
    let h = head x y (same 0 (omega arith)) in
    let t = same_lists xs ys m (omega (arith, p)) (omega (arith, q)) (λ k lt. same (suc k) (omega (arith, lt))) in
    λ i. h i ∷ t i
