-- The places of a list of a fixed capacity, each of which holds something or nothing.
use Rattle.std.specs.Prelude.{◌≡◌, ◌≤◌, ℕ, List, [], ◌∷◌, Bool, false, Option, Some, None, map, length}
use Rattle.attached_drives.specs.Drives.{AttachedState, is_at}

-- what is held, in order
abbrev pub present : {A : Type 0} → List (Option A) → List A
present [] = []
present (None ∷ slots) = present slots
present (Some a ∷ slots) = a ∷ present slots

-- each place holds something, and there are at most so many
pub record AllHeld {A : Type 0} (most : ℕ) (slots : List (Option A)) : Type 0 where
  pub held : slots ≡ map Some (present slots)
  pub few : length (present slots) ≤ most

-- whether a place holds the drive with an address
abbrev pub is_held : (device : ℕ) → Option AttachedState → Bool
is_held device None = false
is_held device (Some u) = is_at device u
