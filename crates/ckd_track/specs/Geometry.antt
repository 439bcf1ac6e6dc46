-- The geometry of a volume, and what follows from it.
use Rattle.std.specs.Prelude.{ℕ, ◌+◌, ◌*◌, ◌≤◌}
use Rattle.ckd_track.specs.declared.model.DriveModel.{DriveModel}
use Rattle.ckd_track.specs.Model.{heads_of, capacity_of, slot_size_of}
use Rattle.ckd_track.specs.declared.geometries.Geometry.{Geometry}

-- how many tracks a volume has
abbrev pub tracks_of : Geometry → ℕ
tracks_of g = g.cylinders * heads_of g.model

-- tracks are numbered from 0 on, cylinder by cylinder and head by head
abbrev pub track_at : Geometry → ℕ → ℕ → ℕ
track_at g cylinder head = cylinder * heads_of g.model + head

-- the geometry of a new volume
abbrev pub new_geometry : DriveModel → ℕ → Geometry
new_geometry model cylinders = record { model = model; cylinders = cylinders; track_size = slot_size_of model }

-- the least track size: home address (5 bytes), R0 (16), a count area (8) with as many bytes of
-- data as the capacity, and the end mark (8)
abbrev pub least_track_size : DriveModel → ℕ
least_track_size model = capacity_of model + 37

-- a volume has a cylinder or more, and tracks of a size that holds what the drive may put on them
pub record IsGeometry (g : Geometry) : Type 0 where
  pub cylinders : 1 ≤ g.cylinders
  pub room : least_track_size g.model ≤ g.track_size
  pub limit : g.track_size ≤ 65536
