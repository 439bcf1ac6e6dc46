-- What the holes of a format write in a column.
use Rattle.std.proofs.Common.{ℕ, ◌-◌, ◌^◌, ◌≡◌, [], false, refl, arith}
use Rattle.std.specs.Fmt.{decimal, padded_integral, format_spec}
use Rattle.std.proofs.Padding.{padded_integral_right}
use Rattle.library_contents.specs.Lines.{at_right}

-- `{n:>width}`
pub column_is : (width n : ℕ) → padded_integral (format_spec 32 3 0 width (2 ^ 64 - 1)) false [] (decimal n) ≡ at_right width n
column_is width n = padded_integral_right (format_spec 32 3 0 width (2 ^ 64 - 1)) (decimal n) refl refl (λ (e : 3 ≡ 1). omega arith)
    (λ (e : 3 ≡ 2). omega arith) (omega arith)
