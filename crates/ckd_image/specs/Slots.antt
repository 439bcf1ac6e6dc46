-- The slots behind an image's header (the CKD_P370 layout).
use Rattle.std.specs.Prelude.{ℕ, zero, suc, List, [], ◌∷◌, take, drop}
-- those of a new volume are passed on
pub use Rattle.ckd_track.specs.NewVolume.{new_track, new_slot, new_slots}

-- so many slots of this size, one after the other
unfoldable pub slots_in : ℕ → ℕ → List ℕ → List (List ℕ)
slots_in size zero bytes = []
slots_in size (suc count) bytes = take size bytes ∷ slots_in size count (drop size bytes)
