-- Lines whose parts stand in columns.
use Rattle.std.specs.Prelude.{ℕ, ◌-◌, ◌==◌, max, if◌then◌else◌, List, [], ◌∷◌, ◌++◌, length, replicate}

-- the blanks before a part at a column, behind so many letters: up to the column, and one at least
abbrev pub blanks_before : (column letters : ℕ) → List ℕ
blanks_before column letters = replicate (max 1 (column - letters)) 32

-- a line with a part more, at its column or one blank behind what stands before it; a part without any letter is left out
unfoldable pub in_column : (column : ℕ) → (part before : List ℕ) → List ℕ
in_column column part before = if length part == 0 then before else before ++ (blanks_before column (length before) ++ part)

-- a line of these parts, each behind the number of its column, where so much of it stands already
abbrev pub in_columns : List (ℕ × List ℕ) → (before : List ℕ) → List ℕ
in_columns [] before = before
in_columns (part ∷ parts) before = in_columns parts (in_column part.0 part.1 before)
