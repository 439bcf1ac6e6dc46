-- The tracks of a volume and of its parts, in the order in which they are read.
use Rattle.std.specs.Prelude.{◌≡◌, ℕ, zero, suc, ◌+◌, ◌-◌, ◌<◌, ◌≤◌, Bool, ◌&&◌, nat_le, List, [], ◌∷◌, ◌++◌, Some, Result, Err, slice_index_or}
use Rattle.std.specs.List.{flat_map}
use Rattle.ckd_track.specs.declared.geometries.Geometry.{Geometry}
use Rattle.ckd_track.specs.Model.{heads_of}
use Rattle.ckd_track.specs.Geometry.{IsGeometry, track_at}
use Rattle.dasd_volumes.specs.declared.fault.VolumeFault.{VolumeFault}
use Rattle.dasd_volumes.specs.declared.fault.VolumeFault.TheVariants.{Store}
use Rattle.dasd_volumes.specs.declared.walks.Range.{Range}
use Rattle.dasd_volumes.specs.declared.walks.Tracks.{Tracks}
use Rattle.dasd_volumes.specs.declared.walks.VolumeTrack.{VolumeTrack}
use Rattle.dasd_volumes.specs.Reading.{KnownVolume}

-- what there is of 0, of 1 and so on, of so many numbers
unfoldable pub of_each : {A : Type 0} → (ℕ → List A) → ℕ → List A
of_each of zero = []
of_each of (suc n) = of_each of n ++ of n

-- what there is of each number of a range
abbrev pub of_range : {A : Type 0} → Range → (ℕ → List A) → List A
of_range r of = of_each (λ k. of (r.first + k)) (r.last + 1 - r.first)

-- a number is one of a range
abbrev pub holds : Range → ℕ → Bool
holds r n = nat_le r.first n && nat_le n r.last

-- the slot of a track; one that the volume lacks has no bytes
abbrev pub slot_at : Geometry → (slots : List (List ℕ)) → (cylinder head : ℕ) → List ℕ
slot_at g slots cylinder head = slice_index_or slots (track_at g cylinder head) []

-- a track of a volume, and the bytes of its slot
pub record ReadTrack : Type 0 where
  pub track : VolumeTrack
  pub slot : List ℕ

abbrev pub track_read : Geometry → (slots : List (List ℕ)) → (cylinder head : ℕ) → ReadTrack
track_read g slots cylinder head = record {
  track = record { geometry = g; cylinder = cylinder; head = head };
  slot = slot_at g slots cylinder head;
}

-- the tracks of some heads of a cylinder
abbrev pub tracks_on : (heads : Range) → (cylinder : ℕ) → Geometry → (slots : List (List ℕ)) → List ReadTrack
tracks_on heads cylinder g slots = of_range heads (λ head. track_read g slots cylinder head ∷ [])

-- those of several cylinders, cylinder by cylinder and head by head
abbrev pub tracks_in : Tracks → Geometry → (slots : List (List ℕ)) → List ReadTrack
tracks_in tracks g slots = of_range tracks.cylinders (λ cylinder. tracks_on tracks.heads cylinder g slots)

-- all heads of a drive
abbrev pub all_heads : Geometry → Range
all_heads g = record { first = 0; last = heads_of g.model - 1 }

-- all tracks of a volume
abbrev pub all_tracks : Geometry → Tracks
all_tracks g = record { cylinders = record { first = 0; last = g.cylinders - 1 }; heads = all_heads g }

-- what is printed of tracks, by what is printed of each
abbrev pub text_in : (ReadTrack → List ℕ) → Tracks → Geometry → (slots : List (List ℕ)) → List ℕ
text_in text tracks g slots = flat_map text (tracks_in tracks g slots)

abbrev pub text_on : (ReadTrack → List ℕ) → (heads : Range) → (cylinder : ℕ) → Geometry → (slots : List (List ℕ)) → List ℕ
text_on text heads cylinder g slots = flat_map text (tracks_on heads cylinder g slots)

-- the tracks exist: the first numbers are not behind the last ones, and these are on the volume
pub record AreOn (tracks : Tracks) (g : Geometry) : Type 0 where
  pub cylinders : tracks.cylinders.first ≤ tracks.cylinders.last
  pub on_volume : tracks.cylinders.last < g.cylinders
  pub heads : tracks.heads.first ≤ tracks.heads.last
  pub on_cylinder : tracks.heads.last < heads_of g.model

-- a track exists
pub record IsTrack (t : VolumeTrack) : Type 0 where
  pub volume : IsGeometry t.geometry
  pub cylinder : t.cylinder < t.geometry.cylinders
  pub head : t.head < heads_of t.geometry.model

-- one more read failed, exactly where a fault of the store is answered
abbrev pub CountsReads : {A : Type 0} → Result A VolumeFault → (before now : ℕ) → Type 0
CountsReads (Err Store) before now = now ≡ before + 1
CountsReads result before now = now ≡ before

-- this holds of the tracks of a volume, if its slots are known
abbrev pub OfTracks : (List ReadTrack → Type 0) → Tracks → KnownVolume → Type 0
OfTracks Holds tracks v = (slots : List (List ℕ)) → v.slots ≡ Some slots → Holds (tracks_in tracks v.geometry slots)

abbrev pub OfTracksOn : (List ReadTrack → Type 0) → (heads : Range) → (cylinder : ℕ) → KnownVolume → Type 0
OfTracksOn Holds heads cylinder v = (slots : List (List ℕ)) → v.slots ≡ Some slots → Holds (tracks_on heads cylinder v.geometry slots)
