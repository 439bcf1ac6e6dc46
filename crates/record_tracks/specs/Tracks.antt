-- The tracks that records take: each has as many of them as it has room for.
use Rattle.std.specs.Prelude.{◌≡◌, ◌≢◌, ℕ, zero, suc, ◌+◌, ◌/◌, ◌%◌, ◌≤◌, nat_le, if◌then◌else◌, List, [], ◌∷◌, ◌++◌, take, drop}
use Rattle.ckd_track.specs.declared.model.DriveModel.{DriveModel}
use Rattle.ckd_track.specs.declared.geometries.Geometry.{Geometry}
use Rattle.ckd_track.specs.Model.{heads_of, capacity_of}
use Rattle.ckd_track.specs.Track.{Record, Track, slot_of}
use Rattle.ckd_track.specs.NewVolume.{address, new_track}
use Rattle.record_tracks.specs.Records.{Areas, charge_for, last_charge_for}

-- How many of these records go on a track whose records have taken so much of its capacity: each fits as the last record of its track,
-- where those before it are charged as records that others follow.
unfoldable pub fitting : DriveModel → (taken : ℕ) → (areas : List Areas) → ℕ
fitting model taken [] = 0
fitting model taken (a ∷ others) =
    if nat_le (taken + last_charge_for model a) (capacity_of model) then suc (fitting model (taken + charge_for model a) others) else 0

-- how many go on a track that has record 0 alone, which takes nothing
abbrev pub fitting_on : DriveModel → (areas : List Areas) → ℕ
fitting_on model areas = fitting model 0 areas

-- the records that are left behind a track, and behind so many tracks
abbrev pub behind_track : DriveModel → (areas : List Areas) → List Areas
behind_track model areas = drop (fitting_on model areas) areas

unfoldable pub left_behind : DriveModel → (areas : List Areas) → (tracks : ℕ) → List Areas
left_behind model areas zero = areas
left_behind model areas (suc n) = behind_track model (left_behind model areas n)

-- so many tracks are the fewest that have all of the records
pub record Takes (model : DriveModel) (areas : List Areas) (tracks : ℕ) : Type 0 where
  pub all : left_behind model areas tracks ≡ []
  pub fewest : (n : ℕ) → suc n ≡ tracks → left_behind model areas n ≢ []

-- Record k, from 0 on, stands on this track, from 0 on, with this number, from 1 on: so many stand on the tracks before.
pub record StandsAt (model : DriveModel) (areas : List Areas) (k track number : ℕ) : Type 0 where
  pub before : ℕ
  pub left : left_behind model areas track ≡ drop before areas
  pub place : before + number ≡ k + 1
  pub first : 1 ≤ number
  pub there : number ≤ fitting_on model (left_behind model areas track)

-- a record with these areas, which has this number on its track
abbrev pub record_with : (track : List ℕ) → (number : ℕ) → Areas → Record
record_with track number a = record { id = track ++ number ∷ []; key_area = a.key_area; data_area = a.data_area }

-- records with these areas, numbered from this number on
unfoldable pub records_with : (track : List ℕ) → (number : ℕ) → (areas : List Areas) → List Record
records_with track number [] = []
records_with track number (a ∷ others) = record_with track number a ∷ records_with track (number + 1) others

-- cylinder and head of the volume's track n
abbrev pub track_bytes : Geometry → (n : ℕ) → List ℕ
track_bytes g n = address (n / heads_of g.model) (n % heads_of g.model)

-- a new track with these records behind its record 0
abbrev pub track_with : Geometry → (n : ℕ) → (areas : List Areas) → Track
track_with g n areas =
    let t = new_track (n / heads_of g.model) (n % heads_of g.model) in
    record t { records = t.records ++ records_with (track_bytes g n) 1 areas }

-- The volume's track n with as many of the records that are left as it has room for; with none left it is a new track.
abbrev pub loaded_track : Geometry → (n : ℕ) → (left : List Areas) → Track
loaded_track g n left = track_with g n (take (fitting_on g.model left) left)

-- the slot that spells it
abbrev pub loaded_slot : Geometry → (n : ℕ) → (left : List Areas) → List ℕ
loaded_slot g n left = slot_of g.track_size (loaded_track g n left)
