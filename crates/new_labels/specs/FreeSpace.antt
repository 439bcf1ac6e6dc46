-- Runs of free tracks in a block of format 5.
use Rattle.std.specs.Prelude.{ℕ, ◌/◌, ◌%◌, ◌==◌, if◌then◌else◌, List, [], ◌∷◌, ◌++◌}
use Rattle.ckd_track.specs.declared.geometries.Geometry.{Geometry}
use Rattle.ckd_track.specs.Model.{heads_of}
use Rattle.volume_labels.specs.declared.fields.FreeTracks.{FreeTracks}
use Rattle.new_labels.specs.Records.{two}

-- so many tracks from one on; none, where there are none
abbrev pub run_of : Geometry → (first tracks : ℕ) → FreeTracks
run_of g first tracks =
    if tracks == 0 then record { first = 0; cylinders = 0; tracks = 0 }
    else record { first = first; cylinders = tracks / heads_of g.model; tracks = tracks % heads_of g.model }

-- a run in its five bytes
abbrev pub run_bytes : FreeTracks → List ℕ
run_bytes f = two f.first ++ (two f.cylinders ++ f.tracks ∷ [])
