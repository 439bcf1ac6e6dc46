-- Volumes that take long.
use Rattle.std.specs.Prelude.{◌*◌, Bool, nat_lt}
use Rattle.ckd_track.specs.declared.geometries.Geometry.{Geometry}
use Rattle.ckd_track.specs.Geometry.{tracks_of}

-- a volume whose slots are more than 4 MiB
abbrev pub takes_long : Geometry → Bool
takes_long g = nat_lt (4 * 1024 * 1024) (tracks_of g * g.track_size)
