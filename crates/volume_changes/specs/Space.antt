-- Tracks that can be given to a data set, as far as the control blocks of a volume say it, and what becomes of the blocks of format 5 where some
-- of them are given.
use Rattle.std.specs.Prelude.{◌≡◌, ℕ, ◌+◌, ◌*◌, Bool, false, ◌&&◌, ◌||◌, not, nat_lt, nat_le, if◌then◌else◌, List, [], ◌∷◌, length, Option, Some, None}
use Rattle.std.specs.Prelude.{Result, Ok, Err}
use Rattle.std.specs.Global.{Vec}
use Rattle.std.specs.List.{position}
use Rattle.ckd_track.specs.declared.geometries.Geometry.{Geometry}
use Rattle.ckd_track.specs.Geometry.{tracks_of}
use Rattle.volume_labels.specs.declared.fields.FreeTracks.{FreeTracks}
use Rattle.volume_labels.specs.declared.fields.RecordAddress.{RecordAddress}
use Rattle.volume_labels.specs.Fields.{number_at, track_address_at}
use Rattle.dasd_volumes.specs.Volumes.{of_each}
use Rattle.volume_contents.specs.declared.blocks.Block.{Block}
use Rattle.volume_contents.specs.Blocks.{has_address}
use Rattle.volume_contents.specs.Contents.{block_in}
use Rattle.volume_contents.specs.Runs.{number}
use Rattle.volume_contents.specs.Sets.{free_chain, pieces_behind}
use Rattle.volume_changes.specs.declared.blocks.BlockChange.{BlockChange}
use Rattle.volume_changes.specs.declared.plans.PlanFault.{PlanFault}
use Rattle.volume_changes.specs.declared.plans.PlanFault.TheVariants as fault
use Rattle.volume_changes.specs.declared.refusal.ChangeRefusal.{ChangeRefusal}
use Rattle.volume_changes.specs.declared.refusal.ChangeRefusal.TheVariants as refusal
use Rattle.volume_changes.specs.Plans.{keeps_free, changes_of}
use Rattle.volume_changes.specs.Runs.{is_said_free, runs_of}

-- free tracks are kept on a volume with these blocks, whose format 4 block stands at this address
abbrev pub keeps_at : (blocks : List Block) → Option ℕ → Bool
keeps_at blocks None = false
keeps_at blocks (Some i) = keeps_free (block_in blocks i) blocks

abbrev pub keeps : (contents : RecordAddress) → (blocks : List Block) → Bool
keeps contents blocks = keeps_at blocks (position (has_address contents) blocks)

-- The alternate tracks that are left: from the one whose address stands at 8 in the format 4 block on, as many as stand at 12.
abbrev pub alternate_at : Geometry → (blocks : List Block) → Option ℕ → ℕ
alternate_at g blocks None = 0
alternate_at g blocks (Some i) = number g (track_address_at (block_in blocks i).bytes 8)

abbrev pub next_alternate : Geometry → (contents : RecordAddress) → (blocks : List Block) → ℕ
next_alternate g contents blocks = alternate_at g blocks (position (has_address contents) blocks)

abbrev pub left_at : (blocks : List Block) → Option ℕ → ℕ
left_at blocks None = 0
left_at blocks (Some i) = number_at (block_in blocks i).bytes 12

abbrev pub alternates_left : (contents : RecordAddress) → (blocks : List Block) → ℕ
alternates_left contents blocks = left_at blocks (position (has_address contents) blocks)

-- the volume's track n is one of so many from a track on
abbrev pub is_among : (first tracks n : ℕ) → Bool
is_among first tracks n = nat_le first n && nat_lt n (first + tracks)

-- A track is open where it is said to be free, or free tracks are not kept; and where it is none of the alternates that are left.
abbrev pub is_open_by : Geometry → (kept : Bool) → (pieces : List FreeTracks) → (alternate left n : ℕ) → Bool
is_open_by g kept pieces alternate left n = (not kept || is_said_free g pieces n) && not (is_among alternate left n)

abbrev pub is_open : Geometry → (contents : RecordAddress) → (blocks : List Block) → (n : ℕ) → Bool
is_open g contents blocks n =
    is_open_by g (keeps contents blocks) (pieces_behind blocks) (next_alternate g contents blocks) (alternates_left contents blocks) n

-- a mark for each track of the volume: 1 where it is open, and 0 where it is not
abbrev pub mark_by : Geometry → (kept : Bool) → (pieces : List FreeTracks) → (alternate left n : ℕ) → ℕ
mark_by g kept pieces alternate left n = if is_open_by g kept pieces alternate left n then 1 else 0

abbrev pub marks_by : Geometry → (kept : Bool) → (pieces : List FreeTracks) → (alternate left : ℕ) → List ℕ
marks_by g kept pieces alternate left = of_each (λ n. mark_by g kept pieces alternate left n ∷ []) (tracks_of g)

abbrev pub open_marks : Geometry → (contents : RecordAddress) → (blocks : List Block) → List ℕ
open_marks g contents blocks =
    marks_by g (keeps contents blocks) (pieces_behind blocks) (next_alternate g contents blocks) (alternates_left contents blocks)

-- the marks of the tracks that are said to be free and are none of so many from a track on
abbrev pub mark_left : Geometry → (pieces : List FreeTracks) → (first tracks n : ℕ) → ℕ
mark_left g pieces first tracks n = if is_said_free g pieces n && not (is_among first tracks n) then 1 else 0

abbrev pub marks_left : Geometry → (pieces : List FreeTracks) → (first tracks : ℕ) → List ℕ
marks_left g pieces first tracks = of_each (λ n. mark_left g pieces first tracks n ∷ []) (tracks_of g)

-- All blocks of format 5 say these runs, 26 in each, as far as they go.
abbrev pub saying : (links : List Block) → (runs : List FreeTracks) → Result (List BlockChange) ChangeRefusal
saying links runs = if nat_lt (26 * length links) (length runs) then Err refusal.NoRoom else Ok (changes_of links runs (length links))

abbrev pub taking : Geometry → (kept : Bool) → (blocks : List Block) → (first tracks : ℕ) → Result (List BlockChange) ChangeRefusal
taking g kept blocks first tracks =
    if not kept then Ok []
    else (if nat_lt 65536 (tracks_of g) then Err refusal.NoRoom
    else saying (free_chain blocks).links (runs_of g (marks_left g (pieces_behind blocks) first tracks)))

-- What becomes of the control blocks where so many tracks from one on are given: those of format 5 say the free tracks without these, in runs
-- that are each as long as they can be; where free tracks are not kept, nothing. Or why the blocks have no room for the runs.
abbrev pub taken_of : Geometry → (contents : RecordAddress) → (blocks : List Block) → (first tracks : ℕ) → Result (List BlockChange) ChangeRefusal
taken_of g contents blocks first tracks = taking g (keeps contents blocks) blocks first tracks

-- this is planned, unless there is no memory
abbrev pub IsTaken : Result (Vec BlockChange) PlanFault → Result (List BlockChange) ChangeRefusal → Type 0
IsTaken (Ok changes) planned = planned ≡ Ok changes.items
IsTaken (Err (fault.Refused r)) planned = planned ≡ Err r
IsTaken (Err fault.OutOfMemory) planned = Unit {0}
