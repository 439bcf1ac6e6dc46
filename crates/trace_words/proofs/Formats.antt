-- What the holes of a format write.
use Rattle.std.proofs.Common.{ℕ, zero, suc, ◌-◌, ◌^◌, ◌≡◌, refl, ap, List, [], ◌∷◌, ◌++◌, false, replicate, length, append-nil}
use Rattle.std.proofs.Math.Nat.{sub-zero, sub_self}
use Rattle.std.specs.Fmt.{decimal, padded_integral, format_spec, char_count}
use Rattle.std.specs.List.{repeat}
use Rattle.trace_words.specs.Lines.{right_aligned}

-- so many blanks
repeated_blank : (n : ℕ) → repeat {A = ℕ} n (32 ∷ []) ≡ replicate n 32
repeated_blank zero = refl
repeated_blank (suc n) = ap (λ (l : List ℕ). 32 ∷ l) (repeated_blank n)

-- `{n:>5}`
pub padded_count : (n : ℕ) → padded_integral (format_spec 32 3 0 5 (2 ^ 64 - 1)) false [] (decimal n) ≡ right_aligned 5 n
unfolding padded_integral char_count lib.Utf8.encode
padded_count n = simp (append-nil, sub-zero, sub_self) (ap (λ (l : List ℕ). l ++ decimal n)
    (repeated_blank (5 - length (decimal n))))
