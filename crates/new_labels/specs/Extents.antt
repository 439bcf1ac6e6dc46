-- The extent of a run of tracks.
use Rattle.std.specs.Prelude.{◌≡◌, ℕ, ◌+◌, ◌-◌, ◌/◌, ◌%◌, ◌<◌, [], ◌∷◌}
use Rattle.ckd_track.specs.declared.geometries.Geometry.{Geometry}
use Rattle.ckd_track.specs.Model.{heads_of}
use Rattle.volume_labels.specs.declared.fields.TrackAddress.{TrackAddress}
use Rattle.volume_labels.specs.declared.fields.Extent.{Extent}
use Rattle.volume_labels.specs.declared.addresses.TrackPlace.TheVariants.{Track}
use Rattle.volume_labels.specs.Addresses.{track_of}

-- cylinder and head of the volume's track n
abbrev pub address_of : Geometry → (n : ℕ) → TrackAddress
address_of g n = record { cylinder = n / heads_of g.model; head = n % heads_of g.model }

-- the first extent of a data set: so many tracks from one on
abbrev pub extent_of_run : Geometry → (first tracks : ℕ) → Extent
extent_of_run g first tracks =
    record { kind = 1; number = 0; first = address_of g first; last = address_of g (first + tracks - 1) }

-- The relative tracks of a data set with this extent alone are these tracks of the volume, in order.
abbrev pub HasRun : Geometry → (first tracks : ℕ) → Extent → Type 0
HasRun g first tracks e = (k : ℕ) → k < tracks → track_of (heads_of g.model) (e ∷ []) k ≡ Track (first + k)
