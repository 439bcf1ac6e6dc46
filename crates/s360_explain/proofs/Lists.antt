-- The lines of one bit more.
use Rattle.std.proofs.Common.{◌≡◌, ℕ, ◌+◌, ◌<◌, ap, List, [], ◌∷◌, ◌++◌, Bool, true, false, cond, map, get_or, drop, length, append_assoc}
use Rattle.std.proofs.Common.{append-nil}
use Rattle.std.proofs.lemmas.List.{drop_more}
use Rattle.std.specs.Prelude.{filter}
use Rattle.s360_words.specs.Words.{has}
use Rattle.s360_explain.specs.Lines.{lines_of_bits}
use Rattle.s360_explain.specs.declared.bits.Field.{Field}
use Rattle.s360_explain.specs.declared.lines.Line.{Line}
use Rattle.s360_explain.specs.declared.lines.Line.TheVariants.{Bit}

-- a bit and the bits behind it
pub next_bit : (field : Field) (number : ℕ) (lines : List Line) (bit : ℕ) (rest : List ℕ)
    → (lines ++ lines_of_bits field number (bit ∷ [])) ++ lines_of_bits field number rest ≡ lines ++ lines_of_bits field number (bit ∷ rest)
next_bit field number lines bit rest = go (has number bit)
  where
    behind : List Line
    behind = lines_of_bits field number rest

    go : (b : Bool) → (lines ++ map (Bit field) (cond b (bit ∷ []) [])) ++ behind ≡ lines ++ map (Bit field)
        (cond b (bit ∷ filter (has number) rest) (filter (has number) rest))
    go true = append_assoc lines (Bit field bit ∷ []) behind
    go false = ap (λ l. l ++ behind) (append-nil lines)

-- one bit more of a list
pub one_more : (field : Field) (number : ℕ) (lines : List Line) (bits : List ℕ) (i : ℕ) → i < length bits
    → (lines ++ lines_of_bits field number (get_or bits i 0 ∷ [])) ++ lines_of_bits field number (drop (i + 1) bits) ≡ lines
    ++ lines_of_bits field number (drop i bits)
one_more field number lines bits i inside = rw (drop_more bits i 0 inside) (next_bit field number lines (get_or bits i 0)
    (drop (i + 1) bits))
