-- Counts with their nouns.
use Rattle.std.specs.Prelude.{ℕ, ◌==◌, if◌then◌else◌, List, [], ◌∷◌, codes}
use Rattle.std.specs.List.{concat}
use Rattle.std.specs.Fmt.{decimal}

-- a count and its noun: in the singular where it is one, else in the plural
abbrev pub quantity_text : (number : ℕ) → (one many : List ℕ) → List ℕ
quantity_text number one many = concat (decimal number ∷ codes " " ∷ (if number == 1 then one else many) ∷ [])
