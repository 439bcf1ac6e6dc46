-- Whether a part of a volume has the records that are asked for.
use Rattle.std.specs.Prelude.{◌≡◌, ◌≤◌, ℕ, Bool, true, false, List, [], slice_index, slice_index_or, Some, Result, Ok, Err}
use Rattle.std.specs.List.{list_any}
use Rattle.ckd_track.specs.declared.geometries.Geometry.{Geometry}
use Rattle.ckd_track.specs.declared.fault.SlotFault.{SlotFault}
use Rattle.ckd_track.specs.Geometry.{track_at}
use Rattle.ckd_track.specs.Track.{Track, track_of}
use Rattle.dasd_volumes.specs.Reading.{KnownVolume}
use Rattle.dasd_volumes.specs.declared.walks.Range.{Range}
use Rattle.dasd_archive.specs.declared.dumps.VolumePart.{VolumePart}
use Rattle.dasd_volumes.specs.Volumes.{holds}

-- a track can be read, and none of its records has one of these numbers
abbrev pub Lacks : Range → Result Track SlotFault → Type 0
Lacks numbers (Ok t) = list_any (λ r. holds numbers (slice_index r.id 4)) t.records ≡ false
Lacks numbers (Err fault) = ⊥

-- each track of a cylinder, between these heads, lacks them
abbrev pub LacksOn : (heads numbers : Range) → (cylinder : ℕ) → Geometry → (slots : List (List ℕ)) → Type 0
LacksOn heads numbers cylinder g slots =
    (head : ℕ) → heads.first ≤ head → head ≤ heads.last → Lacks numbers (track_of (slice_index_or slots (track_at g cylinder head) []))

-- a part of a volume has no such record, and none of its tracks is one that can't be read
abbrev pub LacksRecords : VolumePart → Geometry → (slots : List (List ℕ)) → Type 0
LacksRecords part g slots =
    (cylinder : ℕ) → part.cylinders.first ≤ cylinder → cylinder ≤ part.cylinders.last → LacksOn part.heads part.numbers cylinder g slots

-- an answer is right, of whether something is there or lacks
abbrev pub Tells : (is_there : Bool) → (Lacking : Type 0) → Type 0
Tells true Lacking = Lacking → ⊥
Tells false Lacking = Lacking

-- the same of a volume, if its slots are known
abbrev pub TellsOf : (is_there : Bool) → (Geometry → List (List ℕ) → Type 0) → KnownVolume → Type 0
TellsOf is_there Lacking v = (slots : List (List ℕ)) → v.slots ≡ Some slots → Tells is_there (Lacking v.geometry slots)
