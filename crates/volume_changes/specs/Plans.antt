-- What becomes of the control blocks of a volume of which a data set is deleted, or why it is not.
use Rattle.std.specs.Prelude.{◌≡◌, ℕ, ◌+◌, ◌-◌, ◌/◌, ◌==◌, min, Bool, ◌&&◌, ◌||◌, not, nat_lt, if◌then◌else◌, is_some, List, [], ◌∷◌, ◌++◌, length, slice_index, fold}
use Rattle.std.specs.Prelude.{Option, Some, None, Result, Ok, Err}
use Rattle.std.specs.List.{position}
use Rattle.ckd_track.specs.declared.geometries.Geometry.{Geometry}
use Rattle.ckd_track.specs.Geometry.{tracks_of}
use Rattle.volume_labels.specs.declared.fields.Extent.{Extent}
use Rattle.volume_labels.specs.declared.fields.FreeTracks.{FreeTracks}
use Rattle.volume_labels.specs.declared.fields.RecordAddress.{RecordAddress}
use Rattle.volume_labels.specs.declared.labels.VolumeLabel.{VolumeLabel}
use Rattle.volume_labels.specs.declared.blocks.ContentsBlock.{ContentsBlock}
use Rattle.dasd_volumes.specs.Volumes.{of_each}
use Rattle.new_labels.specs.SetBlocks.{nowhere, updated_contents}
use Rattle.volume_contents.specs.declared.blocks.Block.{Block}
use Rattle.volume_contents.specs.declared.findings.Finding.{Finding}
use Rattle.volume_contents.specs.Blocks.{has_address, is_address}
use Rattle.volume_contents.specs.Contents.{Said, block_in}
use Rattle.volume_contents.specs.Checks.{findings_of}
use Rattle.volume_contents.specs.Sets.{is_data_set, is_free_space, has_name, behind_block, extents_behind, free_chain, pieces_behind}
use Rattle.volume_changes.specs.declared.blocks.BlockChange.{BlockChange}
use Rattle.volume_changes.specs.declared.refusal.ChangeRefusal.{ChangeRefusal}
use Rattle.volume_changes.specs.declared.refusal.ChangeRefusal.TheVariants as refusal
use Rattle.volume_changes.specs.declared.plans.DeletionPlan.{DeletionPlan}
use Rattle.volume_changes.specs.declared.plans.PlanFault.{PlanFault}
use Rattle.volume_changes.specs.declared.plans.PlanFault.TheVariants as fault
use Rattle.volume_changes.specs.Runs.{marks_of, runs_of}
use Rattle.volume_changes.specs.FreeBlocks.{rewritten}

-- Free tracks are kept on a volume with a block of format 5, unless bit 0 (80) of the indicators at 14 in its format 4 block is on and no
-- track is said to be free.
abbrev pub keeps_free : (table : Block) → (blocks : List Block) → Bool
keeps_free table blocks =
    is_some (position (λ b. is_free_space b.kind) blocks)
    && (nat_lt (slice_index table.bytes 14) 128 || nat_lt 0 (length (pieces_behind blocks)))

-- the extents that are given back to the free tracks, where these are kept
abbrev pub given_back : (kept : Bool) → (blocks : List Block) → Block → List Extent
given_back kept blocks b = if kept then extents_behind blocks b else []

-- the marks of the tracks that are said to be free then
abbrev pub marks_behind : Geometry → (kept : Bool) → (blocks : List Block) → Block → List ℕ
marks_behind g kept blocks b = marks_of g (pieces_behind blocks) (given_back kept blocks b)

abbrev pub runs_behind : Geometry → (kept : Bool) → (marks : List ℕ) → List FreeTracks
runs_behind g kept marks = if kept then runs_of g marks else []

-- The blocks that are written anew: those of free tracks, where these are kept, and behind them those of the data set.
abbrev pub free_blocks : (kept : Bool) → (blocks : List Block) → List Block
free_blocks kept blocks = if kept then (free_chain blocks).links else []

abbrev pub anew : (kept : Bool) → (blocks : List Block) → Block → List Block
anew kept blocks b = (free_blocks kept blocks ++ b ∷ []) ++ (behind_block blocks b).links

-- how many blocks so many runs of free tracks take: one has 26 of them, and one there is even where there is no run
abbrev pub blocks_for : (runs : ℕ) → ℕ
blocks_for runs = if runs == 0 then 1 else (runs - 1) / 26 + 1

-- how many of them say free tracks, of which there are so many runs
abbrev pub holding : (kept : Bool) → (runs : ℕ) → ℕ
holding kept runs = if kept then blocks_for runs else 0

-- The last format 1 block but this one; none where there is no other.
abbrev pub last_but : (gone : RecordAddress) → (last : RecordAddress) → Block → RecordAddress
last_but gone last b = if is_data_set b.kind && not (has_address gone b) then b.address else last

-- the last format 1 block that format 4 tells: another one where that is the one that goes
abbrev pub last_behind : ContentsBlock → (blocks : List Block) → Block → RecordAddress
last_behind t blocks b =
    if is_address t.last_data_set b.address then fold (last_but b.address) nowhere blocks else t.last_data_set

-- how many free blocks it tells: as many more as were in use and are not, and no more than two bytes hold
abbrev pub free_behind : ContentsBlock → (all left : ℕ) → ℕ
free_behind t all left = min (t.free_blocks + (all - left)) 65535

abbrev pub table_change : (table : Block) → (last : RecordAddress) → (free : ℕ) → BlockChange
table_change table last free = record { block = table; key = table.key; bytes = updated_contents table.bytes last free }

-- What is deleted: the blocks that change, and a mark for each track that is said to be free then.
pub record Deletion : Type 0 where
  pub changes : List BlockChange
  pub marks : List ℕ

abbrev pub changes_of : (anew : List Block) → List FreeTracks → (holding : ℕ) → List BlockChange
changes_of anew runs holding = of_each (λ i. rewritten anew runs holding i ∷ []) (length anew)

-- what goes with the data set of this block, where so many of the blocks that are written anew say free tracks
abbrev pub deletion_with : ContentsBlock → (table : Block) → (blocks : List Block) → Block → (anew : List Block) → (marks : List ℕ)
    → List FreeTracks → (holding : ℕ) → Result Deletion ChangeRefusal
deletion_with t table blocks b anew marks runs holding =
    if nat_lt (length anew) holding then Err refusal.NoRoom
    else Ok (record {
      changes = changes_of anew runs holding
          ++ table_change table (last_behind t blocks b) (free_behind t (length anew) holding) ∷ [];
      marks = marks;
    })

abbrev pub deletion_by : Geometry → ContentsBlock → (table : Block) → (blocks : List Block) → Block → (kept : Bool) → Result Deletion ChangeRefusal
deletion_by g t table blocks b kept =
    let marks = marks_behind g kept blocks b in
    let runs = runs_behind g kept marks in
    if kept && nat_lt 65536 (tracks_of g) then Err refusal.NoRoom
    else deletion_with t table blocks b (anew kept blocks b) marks runs (holding kept (length runs))

-- the format 4 block stands among the blocks
abbrev pub deletion_in : Geometry → ContentsBlock → (blocks : List Block) → Block → Option ℕ → Result Deletion ChangeRefusal
deletion_in g t blocks b None = Err refusal.NoContents
deletion_in g t blocks b (Some i) = deletion_by g t (block_in blocks i) blocks b (keeps_free (block_in blocks i) blocks)

abbrev pub deletion_at : Geometry → VolumeLabel → ContentsBlock → (blocks : List Block) → Option ℕ → Result Deletion ChangeRefusal
deletion_at g l t blocks None = Err refusal.NoDataSet
deletion_at g l t blocks (Some i) = deletion_in g t blocks (block_in blocks i) (position (has_address l.contents) blocks)

-- all that is wrong with a volume that says this: with its table of contents, its data sets and its free tracks
abbrev pub all_findings : Geometry → Said → List Finding
all_findings g s = s.findings ++ findings_of g s.table s.blocks

abbrev pub nothing_wrong : Geometry → Said → Bool
nothing_wrong g s = length (all_findings g s) == 0

abbrev pub deletion_if : Geometry → Said → (name : List ℕ) → Option VolumeLabel → Option ContentsBlock → Result Deletion ChangeRefusal
deletion_if g s name None table = Err refusal.NoLabel
deletion_if g s name (Some l) None = Err refusal.NoContents
deletion_if g s name (Some l) (Some t) =
    if nothing_wrong g s then deletion_at g l t s.blocks (position (has_name name) s.blocks) else Err refusal.Findings

-- what is deleted with a data set of a volume that says this: with the first of the name in the order of the table of contents
abbrev pub deletion_of : Geometry → Said → (name : List ℕ) → Result Deletion ChangeRefusal
deletion_of g s name = deletion_if g s name s.label s.table

-- this is planned, unless there is no memory
abbrev pub IsPlanned : Result DeletionPlan PlanFault → Result Deletion ChangeRefusal → Type 0
IsPlanned (Ok p) planned = planned ≡ Ok (record { changes = p.changes.items; marks = p.marks.items })
IsPlanned (Err (fault.Refused refusal)) planned = planned ≡ Err refusal
IsPlanned (Err fault.OutOfMemory) planned = Unit {0}
