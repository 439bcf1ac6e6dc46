-- The tracks of a new volume, and the slots that spell them (the CKD_P370 layout; component descriptions of
-- the 2841 and the 2314, 'Track Format').
use Rattle.std.specs.Prelude.{ℕ, ◌/◌, ◌%◌, List, [], ◌∷◌, ◌++◌, map, replicate}
use Rattle.std.specs.List.{range_with_len}
use Rattle.ckd_track.specs.Track.{Track, slot_of}
use Rattle.ckd_track.specs.Model.{heads_of}
use Rattle.ckd_track.specs.declared.geometries.Geometry.{Geometry}
use Rattle.ckd_track.specs.Geometry.{tracks_of}

-- a cylinder and a head, in two bytes each, the high byte first
abbrev pub address : ℕ → ℕ → List ℕ
address cylinder head = cylinder / 256 ∷ cylinder % 256 ∷ head / 256 ∷ head % 256 ∷ []

-- a track of a new volume: its home address with flag 0, and R0 without a key and with eight zero
-- bytes
abbrev pub new_track : ℕ → ℕ → Track
new_track cylinder head = record {
  home_address = 0 ∷ address cylinder head;
  records = record { id = address cylinder head ++ 0 ∷ []; key_area = []; data_area = replicate 8 0 } ∷ [];
}

-- the slot of track number n of a new volume
abbrev pub new_slot : Geometry → ℕ → List ℕ
new_slot g n = slot_of g.track_size (new_track (n / heads_of g.model) (n % heads_of g.model))

-- the slots of a new volume, cylinder by cylinder and head by head
abbrev pub new_slots : Geometry → List (List ℕ)
new_slots g = map (new_slot g) (range_with_len 0 (tracks_of g))
