-- The tracks that are free behind a deletion, and the runs of them.
use Rattle.std.specs.Prelude.{ℕ, ◌+◌, ◌-◌, ◌==◌, Bool, ◌&&◌, ◌||◌, not, nat_lt, nat_le, if◌then◌else◌, List, [], ◌∷◌, length, drop, slice_index, Option, Some, None}
use Rattle.std.specs.List.{position, list_any}
use Rattle.ckd_track.specs.declared.geometries.Geometry.{Geometry}
use Rattle.ckd_track.specs.Geometry.{tracks_of}
use Rattle.volume_labels.specs.declared.fields.Extent.{Extent}
use Rattle.volume_labels.specs.declared.fields.FreeTracks.{FreeTracks}
use Rattle.dasd_volumes.specs.Volumes.{of_each}
use Rattle.new_labels.specs.Runs.{is_taken}
use Rattle.new_labels.specs.FreeSpace.{run_of}
use Rattle.volume_contents.specs.Sets.{number_of_free}

-- a piece of free tracks has the volume's track n
abbrev pub has_free : Geometry → (n : ℕ) → FreeTracks → Bool
has_free g n f = nat_le f.first n && nat_lt n (f.first + number_of_free g f)

-- one of the pieces has it
abbrev pub is_said_free : Geometry → List FreeTracks → (n : ℕ) → Bool
is_said_free g pieces n = list_any (has_free g n) pieces

-- A track is free behind a deletion: it was said to be, or it is one of the extents that are given back.
abbrev pub is_free_behind : Geometry → List FreeTracks → List Extent → (n : ℕ) → Bool
is_free_behind g pieces extents n = is_said_free g pieces n || is_taken g extents n

-- a mark for each track of the volume: 1 where it is free then, and 0 where it is not
abbrev pub mark_of : Geometry → List FreeTracks → List Extent → (n : ℕ) → ℕ
mark_of g pieces extents n = if is_free_behind g pieces extents n then 1 else 0

abbrev pub marks_of : Geometry → List FreeTracks → List Extent → List ℕ
marks_of g pieces extents = of_each (λ n. mark_of g pieces extents n ∷ []) (tracks_of g)

abbrev pub is_unmarked : ℕ → Bool
is_unmarked mark = mark == 0

-- a run of marked tracks begins with track n: it is marked, and the one before it is not
abbrev pub begins_run : (marks : List ℕ) → (n : ℕ) → Bool
begins_run marks n = not (is_unmarked (slice_index marks n)) && (n == 0 || is_unmarked (slice_index marks (n - 1)))

-- how many marks stand before the first 0; all of them where there is none
abbrev pub up_to : (all : ℕ) → Option ℕ → ℕ
up_to all None = all
up_to all (Some k) = k

abbrev pub marked_first : (marks : List ℕ) → ℕ
marked_first marks = up_to (length marks) (position is_unmarked marks)

abbrev pub run_from : Geometry → (marks : List ℕ) → (n : ℕ) → List FreeTracks
run_from g marks n = if begins_run marks n then run_of g n (marked_first (drop n marks)) ∷ [] else []

-- The runs of marked tracks, each as long as it can be, in the order of their tracks.
abbrev pub runs_of : Geometry → (marks : List ℕ) → List FreeTracks
runs_of g marks = of_each (run_from g marks) (length marks)
