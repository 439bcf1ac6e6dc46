-- How many blanks stand before a part.
use Rattle.std.proofs.Common.{◌≡◌, ◌+◌, ◌-◌, ◌≤◌, ℕ, arith}
use Rattle.std.specs.Prelude.{max}

-- as many as up to the column, and one at least
pub blanks_are : (letters column end : ℕ) → letters + 1 ≤ end → column ≤ end → end ≤ max (letters + 1) column
    → end - letters ≡ max 1 (column - letters)
blanks_are letters column end some far near = omega arith
