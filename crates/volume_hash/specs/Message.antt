-- What a volume says, as one message of bytes, and its hash. What stands behind end marks is no part of it.
use Rattle.std.specs.Prelude.{◌≡◌, ℕ, List, [], ◌∷◌, ◌++◌, length, slice_index_or, codes, Some, Result, Ok, Err}
use Rattle.std.specs.Int.{w16, w32, to_be_bytes}
use Rattle.sha2.specs.Sha256.{sha256}
use Rattle.ckd_track.specs.declared.fault.SlotFault.{SlotFault}
use Rattle.ckd_track.specs.declared.geometries.Geometry.{Geometry}
use Rattle.ckd_track.specs.Geometry.{tracks_of}
use Rattle.ckd_track.specs.Track.{Track, spelling, track_of}
use Rattle.ckd_track.specs.Model.{model_number_of}
use Rattle.dasd_volumes.specs.Reading.{KnownVolume}
use Rattle.dasd_volumes.specs.Volumes.{of_each}
use Rattle.volume_hash.specs.declared.volumes.VolumeHash.{VolumeHash}

-- what a slot says: the track that it spells; where it spells none, all its bytes
abbrev pub said_by : (slot : List ℕ) → Result Track SlotFault → Result Track (List ℕ)
said_by slot (Ok t) = Ok t
said_by slot (Err fault) = Err slot

abbrev pub says : (slot : List ℕ) → Result Track (List ℕ)
says slot = said_by slot (track_of slot)

-- A track that can be read: a byte 1, and its bytes from the home address up to the end mark, with that. One that can't be: a byte 0,
-- the number of its slot's bytes in four bytes, and these.
abbrev pub track_message : Result Track (List ℕ) → List ℕ
track_message (Ok t) = 1 ∷ spelling t
track_message (Err slot) = 0 ∷ to_be_bytes w32 (length slot) ++ slot

abbrev pub slot_message : (slot : List ℕ) → List ℕ
slot_message slot = track_message (says slot)

-- what a volume begins with: the word for it, and the numbers of its model and of its cylinders in two bytes each
abbrev pub volume_head : Geometry → List ℕ
volume_head g = codes "volume" ++ to_be_bytes w16 (model_number_of g.model) ++ to_be_bytes w16 g.cylinders

-- the tracks in their order, cylinder by cylinder and head by head
abbrev pub tracks_message : Geometry → (slots : List (List ℕ)) → List ℕ
tracks_message g slots = of_each (λ n. slot_message (slice_index_or slots n [])) (tracks_of g)

abbrev pub volume_message : Geometry → (slots : List (List ℕ)) → List ℕ
volume_message g slots = volume_head g ++ tracks_message g slots

abbrev pub volume_hash : Geometry → (slots : List (List ℕ)) → List ℕ
volume_hash g slots = sha256 (volume_message g slots)

-- the fault of a track that can't be read
abbrev pub fault_of : Result Track SlotFault → List SlotFault
fault_of (Ok t) = []
fault_of (Err fault) = fault ∷ []

abbrev pub unreadable_at : (slot : List ℕ) → List SlotFault
unreadable_at slot = fault_of (track_of slot)

-- how many tracks of a volume can't be read
abbrev pub unreadable_in : Geometry → (slots : List (List ℕ)) → ℕ
unreadable_in g slots = length (of_each (λ n. unreadable_at (slice_index_or slots n [])) (tracks_of g))

-- What is said of a volume whose slots are known.

-- the message goes on by all tracks
abbrev pub AddsTracks : KnownVolume → (before now : List ℕ) → Type 0
AddsTracks v before now = (slots : List (List ℕ)) → v.slots ≡ Some slots → now ≡ before ++ tracks_message v.geometry slots

-- so many of its tracks can't be read
abbrev pub NumberOfUnreadable : KnownVolume → ℕ → Type 0
NumberOfUnreadable v n = (slots : List (List ℕ)) → v.slots ≡ Some slots → n ≡ unreadable_in v.geometry slots

-- this is its hash, and so many of its tracks can't be read
pub record IsHashOf (v : KnownVolume) (h : VolumeHash) : Type 0 where
  pub digest : (slots : List (List ℕ)) → v.slots ≡ Some slots → h.digest ≡ volume_hash v.geometry slots
  pub unreadable : NumberOfUnreadable v h.unreadable
