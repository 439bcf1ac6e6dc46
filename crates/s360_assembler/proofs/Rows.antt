-- A list so many times in a row.
use Rattle.std.proofs.Common.{◌≡◌, ◌+◌, ◌*◌, ℕ, zero, suc, List, [], ◌∷◌, ◌++◌, replicate, flat_map, length, length-append, refl, ap, ◌∙◌}
use Rattle.std.proofs.Common.{sym, append_assoc, append-nil, suc-add, arith, ◌<◌, ◌≤◌}
use Rattle.std.proofs.Math.Nat.{zero-mul, suc-mul, mul-le-mul_right}

-- so many times in a row
abbrev pub times : ℕ → List ℕ → List ℕ
times n bytes = flat_map (λ part. part) (replicate n bytes)

-- once more, behind the others
pub once_more : (n : ℕ) (bytes : List ℕ) → times n bytes ++ bytes ≡ times (n + 1) bytes
once_more zero bytes = simp (append-nil) refl
once_more (suc n) bytes =
    append_assoc bytes (times n bytes) bytes ∙ ap (λ more. bytes ++ more) (once_more n bytes) ∙ ap (λ m. times m bytes) (sym (suc-add n 1))

-- how many bytes
pub length_of_times : (n : ℕ) (bytes : List ℕ) → length (times n bytes) ≡ n * length bytes
length_of_times zero bytes = sym (zero-mul (length bytes))
length_of_times (suc n) bytes =
    length-append bytes (times n bytes) ∙ omega (arith, length_of_times n bytes, suc-mul n (length bytes))

-- once more fits, where so many times do
pub one_more_fits : (done n : ℕ) (bytes all : List ℕ) → all ≡ times done bytes → done < n → n * length bytes ≤ 128
    → length all + length bytes ≤ 128
one_more_fits done n bytes all made less most =
    let more : done + 1 ≤ n = omega (arith, less) in
    rw (made, length_of_times done bytes) (omega (arith, most, mul-le-mul_right (length bytes) more))
