-- The tracks of a volume that can be given to a data set.
use Rattle.std.specs.Prelude.{ℕ, ◌%◌, ◌==◌, if◌then◌else◌, List, [], ◌∷◌, slice_index, Result, Ok, Err}
use Rattle.ckd_track.specs.declared.fault.SlotFault.{SlotFault}
use Rattle.ckd_track.specs.Geometry.{tracks_of}
use Rattle.ckd_track.specs.Track.{Track, track_of}
use Rattle.dasd_extract.specs.Alternates.{flags_of}
use Rattle.dasd_volumes.specs.Volumes.{of_each}
use Rattle.new_labels.specs.Runs.{Space}
use Rattle.volume_contents.specs.Contents.{slot_at}
use Rattle.volume_changes.specs.Space.{open_marks}
use Rattle.loaded_sets.specs.Volumes.{Labelled, taken_extents}

-- The mark of a track: 1 where it can be read and its home address flags it neither as defective nor as an alternate, else 0.
abbrev pub plain_mark : Result Track SlotFault → ℕ
plain_mark (Ok t) = if flags_of t % 4 == 0 then 1 else 0
plain_mark (Err f) = 0

-- The same of a track that the control blocks leave open; 0 where they do not.
abbrev pub mark_in : (marks : List ℕ) → (slots : List (List ℕ)) → (n : ℕ) → ℕ
mark_in marks slots n = if slice_index marks n == 0 then 0 else plain_mark (track_of (slot_at slots n))

abbrev pub marks_in : (marks : List ℕ) → (slots : List (List ℕ)) → (tracks : ℕ) → List ℕ
marks_in marks slots tracks = of_each (λ n. mark_in marks slots n ∷ []) tracks

-- What says which tracks can be given: the extents of data sets and of the table of contents have none of them; the control blocks leave each
-- open, which is none of the alternates that are left, and free where the volume keeps its free tracks; and its home address has no flag.
abbrev pub space : Labelled → (slots : List (List ℕ)) → Space
space v slots = record {
  extents = taken_extents v;
  marks = marks_in (open_marks v.geometry v.label.contents v.blocks) slots (tracks_of v.geometry);
}
