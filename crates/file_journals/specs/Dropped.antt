-- What is asked of the host where a journal is dropped.
use Rattle.std.specs.Prelude.{◌≡◌, ◌⊎◌, Bool, List, ◌∷◌}
use Rattle.atomic_save.specs.Calls.{Event, Retired, NamesSynced}

-- The journal is unlinked, and its folder synced: no file is written.
abbrev pub OnlyDrops : (old new : List Event) → Type 0
OnlyDrops old new = (new ≡ old) ⊎ (new ≡ Retired ∷ old) ⊎ ((done : Bool) × (new ≡ NamesSynced done ∷ Retired ∷ old))
