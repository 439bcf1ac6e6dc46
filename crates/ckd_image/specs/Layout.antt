-- How an image's file is laid out.
use Rattle.std.specs.Prelude.{ℕ, ◌+◌, ◌*◌}
use Rattle.ckd_track.specs.declared.geometries.Geometry.{Geometry}
use Rattle.ckd_track.specs.Geometry.{tracks_of}

-- the length of an image's file: a header of 512 bytes, and a slot for each track
abbrev pub image_length : Geometry → ℕ
image_length g = 512 + tracks_of g * g.track_size
