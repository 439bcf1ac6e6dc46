-- What the holes of a format write.
use Rattle.std.proofs.Common.{ℕ, ◌+◌, ◌-◌, ◌<◌, ◌^◌, ◌≡◌, List, [], ◌∷◌, ◌++◌, Bool, true, false, length, take, get_or, refl, codes}
use Rattle.std.proofs.Math.Nat.{sub-zero}
use Rattle.std.proofs.lemmas.List.{append-nil, flat_map_more, take_more}
use Rattle.std.specs.List.{concat}
use Rattle.std.specs.Fmt.{digits, decimal, padded_integral, format_spec, char_count}
use Rattle.volume_labels.specs.declared.fields.Date.{Date}
use Rattle.volume_labels.specs.Ebcdic.{shown}
use Rattle.dasd_volumes.specs.Lines.{hexadecimal}
use Rattle.dasd_volumes.proofs.Formats.{padded_hexadecimal}
use Rattle.dasd_contents.specs.Words.{three_digits, is_date, day_text, in_text, text_of}

-- `{n:03}`
pub zeros_before : (n : ℕ) → padded_integral (format_spec 32 0 4 3 (2 ^ 64 - 1)) false [] (decimal n) ≡ three_digits n
unfolding padded_integral char_count
zeros_before n = simp (append-nil, sub-zero)

-- `{year}-{day:03}`
pub year_and_day : (wide : Bool) (d : Date) (year : ℕ) → is_date d ≡ true → year ≡ 1900 + d.year
    → decimal year ++ (codes "-" ++ padded_integral (format_spec 32 0 4 3 (2 ^ 64 - 1)) false [] (decimal d.day)) ≡ day_text wide d
year_and_day wide d year there is = rw (is, there, zeros_before d.day, append-nil (three_digits d.day)) refl

pub unknown_format : (format : ℕ)
    → codes "control block of unknown format " ++ padded_integral (format_spec 32 0 4 2 (2 ^ 64 - 1)) false [] (digits 16 true format)
    ≡ concat (codes "control block of unknown format " ∷ hexadecimal 2 format ∷ [])
unknown_format format = rw (padded_hexadecimal 2 format, append-nil (hexadecimal 2 format)) refl

-- one character more
pub one_more_shown : (quoted : Bool) (bytes : List ℕ) (k : ℕ) → k < length bytes
    → text_of quoted (take k bytes) ++ in_text quoted (shown (get_or bytes k 0)) ≡ text_of quoted (take (k + 1) bytes)
one_more_shown quoted bytes k inside = rw (take_more bytes k 0 inside) (flat_map_more (λ b. in_text quoted (shown b)) [] (take k bytes)
    (get_or bytes k 0))
