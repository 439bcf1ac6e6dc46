-- Tracks of a volume by their numbers, and runs of them.
use Rattle.std.specs.Prelude.{ℕ, ◌+◌, ◌-◌, ◌/◌, ◌%◌, ◌==◌, min, Bool, ◌&&◌, not, nat_lt, nat_le, if◌then◌else◌}
use Rattle.ckd_track.specs.declared.geometries.Geometry.{Geometry}
use Rattle.ckd_track.specs.Geometry.{tracks_of}
use Rattle.ckd_track.specs.Model.{heads_of}
use Rattle.volume_labels.specs.declared.fields.TrackAddress.{TrackAddress}
use Rattle.volume_labels.specs.declared.fields.Extent.{Extent}
use Rattle.volume_labels.specs.Addresses.{number_of_track, is_run, tracks_of_extent}
use Rattle.volume_contents.specs.declared.runs.Run.{Run}

-- the volume has this track
abbrev pub exists_on : Geometry → TrackAddress → Bool
exists_on g t = nat_lt t.cylinder g.cylinders && nat_lt t.head (heads_of g.model)

-- the cylinder and head of the track of this number
abbrev pub address_of_number : Geometry → ℕ → TrackAddress
address_of_number g n = record { cylinder = n / heads_of g.model; head = n % heads_of g.model }

-- the tracks of an extent are all on the volume
abbrev pub is_on : Geometry → Extent → Bool
is_on g e = (is_run (heads_of g.model) e && exists_on g e.first) && exists_on g e.last

abbrev pub number : Geometry → TrackAddress → ℕ
number g t = number_of_track (heads_of g.model) t

-- an extent can be that of a volume table of contents: it is one, on the volume, and has the track of the format 4 block
abbrev pub is_table_extent : Geometry → (block : TrackAddress) → Extent → Bool
is_table_extent g block e =
    ((not (e.kind == 0) && is_on g e) && nat_le (number g e.first) (number g block)) && nat_le (number g block) (number g e.last)

-- the tracks of a volume table of contents that are read: those of its extent that are on the volume, or the track of its format 4 block
abbrev pub walked_of : Geometry → (block : TrackAddress) → Extent → Run
walked_of g block e =
    if is_run (heads_of g.model) e && exists_on g e.first
    then record { first = number g e.first; tracks = min (number g e.last + 1) (tracks_of g) - number g e.first }
    else record { first = number g block; tracks = 1 }
