-- An image, with the slot of one track at hand: loaded when it is first wanted, written in place, saved late.
use Rattle.std.specs.Prelude.{◌≡◌, ℕ, ◌+◌, ◌<◌, List, [], Bool, true, false, ◌==◌, Option, Some, None, IsSome, unwrap_or, length, slice_index_or, slice_set}
use Rattle.std.specs.Prelude.{All, if◌then◌else◌}
use Rattle.ckd_track.specs.Geometry.{IsGeometry, tracks_of}
use Rattle.ckd_image.specs.Image.{ImageState}
use Rattle.ckd_track.specs.Track.{track_of, slot_of}
use Rattle.ckd_position.specs.declared.areas.Area.{Area}
use Rattle.ckd_position.specs.Contents.{formatted}

-- an image with the slot of one track at hand: which track that is, and whether its slot was changed and not saved
pub record CacheState : Type 0 where
  pub image : ImageState
  -- the image's slots, with what was written into the one at hand
  pub slots : List (List ℕ)
  pub held : Option ℕ
  pub changed : Bool

-- a list of slots with the slot at hand in its place
abbrev pub held_over : List (List ℕ) → Option ℕ → List ℕ → List (List ℕ)
held_over slots None slot = slots
held_over slots (Some t) slot = slice_set slots t slot

-- the track at hand, if there is one, is one of the image's
abbrev pub IsThere : ImageState → Option ℕ → Type 0
IsThere i None = Unit {0}
IsThere i (Some t) = t < tracks_of i.geometry

-- an image as a list of slots: one for each track, each of the track size
pub record HasSlots (i : ImageState) : Type 0 where
  pub geometry : IsGeometry i.geometry
  pub count : length i.slots ≡ tracks_of i.geometry
  pub sizes : All (λ slot. length slot ≡ i.geometry.track_size) i.slots

-- the slot at hand is as long as the others, is the image's where it was not changed, and was changed only where there
-- is one
pub record Holds (i : ImageState) (held : Option ℕ) (changed : Bool) (slot : List ℕ) : Type 0 where
  pub image : HasSlots i
  pub size : length slot ≡ i.geometry.track_size
  pub there : IsThere i held
  pub clean : changed ≡ false → held_over i.slots held slot ≡ i.slots
  pub anchored : changed ≡ true → IsSome held

-- the slot at hand
abbrev pub slot_held : CacheState → List ℕ
slot_held c = slice_index_or c.slots (unwrap_or c.held 0) []

-- the cache once this was written into the slot at hand
abbrev pub with_held : CacheState → List ℕ → CacheState
with_held c slot = record c { slots = slice_set c.slots (unwrap_or c.held 0) slot; changed = true }

-- whether the slot at hand is that of this track
abbrev pub holds : Option ℕ → ℕ → Bool
holds None track = false
holds (Some t) track = t == track

-- the slot of a track, where it is the one at hand
abbrev pub slot_at_hand : CacheState → (track : ℕ) → Option (List ℕ)
slot_at_hand c track = if holds c.held track then Some (slot_held c) else None

-- after a look at a track: it is loaded where another is at hand
abbrev pub loaded : ImageState → (at_hand : Bool) → ImageState
loaded i true = i
loaded i false = record i { loads = i.loads + 1 }

-- this track's slot is at hand
abbrev pub after_hold : CacheState → ℕ → CacheState
after_hold c track = record c { image = loaded c.image (holds c.held track); held = Some track }

-- the slot could not be loaded: none is at hand
abbrev pub after_failed_hold : CacheState → CacheState
after_failed_hold c = record c {
  image = record c.image { loads = c.image.loads + 1; failures = c.image.failures + 1 };
  held = None;
}

-- after a saving: the slot at hand is saved where it was changed
abbrev pub saved : ImageState → List (List ℕ) → (changed : Bool) → ImageState
saved i slots true = record i { slots = slots; saves = i.saves + 1 }
saved i slots false = i

-- the slot at hand is saved where it was changed, and stays at hand
abbrev pub after_save : CacheState → CacheState
after_save c = record c { image = saved c.image c.slots c.changed; changed = false }

-- the slots, with what a failed saving left in the place of the slot at hand
abbrev pub lost_slots : CacheState → (left : List ℕ) → List (List ℕ)
lost_slots c left = slice_set c.slots (unwrap_or c.held 0) left

-- the slot at hand is dropped, and its track holds what the failed saving left
abbrev pub after_failed_save : CacheState → (left : List ℕ) → CacheState
after_failed_save c left = record {
  image = record c.image { slots = lost_slots c left; saves = c.image.saves + 1; failures = c.image.failures + 1 };
  slots = lost_slots c left;
  held = None;
  changed = false;
}

-- what is known of the slots
pub record IsVolume (c : CacheState) : Type 0 where
  pub geometry : IsGeometry c.image.geometry
  pub count : length c.slots ≡ tracks_of c.image.geometry
  pub sizes : All (λ slot. length slot ≡ c.image.geometry.track_size) c.slots
  pub clean : c.changed ≡ false → c.slots ≡ c.image.slots

-- after a formatting write of which no byte came: the slot at hand is that of the track with the new record
abbrev pub after_format : CacheState → Option Area → (count : List ℕ) → CacheState
after_format c after count = with_held c (slot_of c.image.geometry.track_size
    (formatted (track_of (slot_held c)) after count))
