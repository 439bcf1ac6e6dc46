-- What changes of a volume leave of its data sets.
use Rattle.std.specs.Prelude.{◌≡◌, ℕ, ◌<◌, ◌==◌, Bool, true, false, ◌||◌, List, [], length, All, Ok}
use Rattle.ckd_track.specs.Model.{heads_of}
use Rattle.volume_labels.specs.Addresses.{is_split}
use Rattle.new_labels.specs.Runs.{has_track, is_free, is_taken}
use Rattle.volume_contents.specs.declared.blocks.Block.{Block}
use Rattle.volume_contents.specs.Contents.{block_in, contents_of, slot_at}
use Rattle.dasd_extract.specs.Alternates.{is_other}
use Rattle.dasd_extract.specs.Walk.{Wanted, track_on, source_written}
use Rattle.volume_changes.specs.declared.blocks.BlockChange.{BlockChange}
use Rattle.volume_changes.specs.Deletions.{all_changed, deleted}
use Rattle.volume_changes.specs.declared.labels.LabelFields.{LabelFields}
use Rattle.volume_changes.specs.Volumes.{renamed, relabelled}
use Rattle.loaded_sets.specs.declared.plans.PlacedSet.{PlacedSet}
use Rattle.loaded_sets.specs.Placed.{GetsSet}
use Rattle.loaded_sets.specs.Sets.{CanBePlaced}
use Rattle.loaded_sets.specs.Space.{space}
use Rattle.loaded_sets.specs.Volumes.{Labelled, SaysOf}
use Rattle.volume_laws.specs.Space.{IsSound, set_extents}
use Rattle.volume_laws.specs.Frame.{is_alternate_of}

-- the volume's track n is the label's, or one of the table of contents
abbrev pub is_kept_back : Labelled → (n : ℕ) → Bool
is_kept_back v n = (n == 0) || has_track (heads_of v.geometry.model) n v.table.extent

-- What no finding says yet: the table of contents shares no cylinder, no data set has the label's track, and no track of a data set names
-- as its alternate the label's track or one of the table.
pub record IsClear (v : Labelled) (slots : List (List ℕ)) : Type 0 where
  pub whole : is_split v.table.extent ≡ false
  pub label : is_taken v.geometry (set_extents v) 0 ≡ false
  pub alternates : (n m : ℕ) → is_taken v.geometry (set_extents v) n ≡ true → is_alternate_of v.geometry (track_on slots n) m ≡ true
      → is_kept_back v m ≡ false

-- A change writes the label's track, those of the table of contents and free ones alone; and a free one does not become an alternate.
pub record WritesItsOwn (v : Labelled) (before now : List (List ℕ)) : Type 0 where
  pub others : (n : ℕ) → is_kept_back v n ≡ false → is_free v.geometry (space v before) n ≡ false → slot_at now n ≡ slot_at before n
  pub plain : (n : ℕ) → is_free v.geometry (space v before) n ≡ true → is_other (track_on now n) ≡ true

-- the same is extracted of all that has the tracks of data sets alone
abbrev pub SetsStay : Labelled → (before now : List (List ℕ)) → Type 0
SetsStay v before now = (s : Wanted) → ((n : ℕ) → is_taken v.geometry s.extents n ≡ true → is_taken v.geometry (set_extents v) n ≡ true)
    → source_written s v.geometry now ≡ source_written s v.geometry before

-- such a change leaves what is extracted of each data set that was there
abbrev pub OwnWritesKeep : Type 0
OwnWritesKeep = (v : Labelled) (before now : List (List ℕ)) → IsSound v → IsClear v before → WritesItsOwn v before now
    → SetsStay v before now

-- so does a volume that gets a data set
abbrev pub LoadKeeps : Type 0
LoadKeeps = (v : Labelled) (set : PlacedSet) (before : List (List ℕ)) (tracks : ℕ) (now : List (List ℕ)) → GetsSet v set before tracks now
    → CanBePlaced v.geometry.model set → IsSound v → IsClear v before → SetsStay v before now

-- a control block is one of these
pub record IsOneOf (blocks : List Block) (b : Block) : Type 0 where
  pub place : ℕ
  pub inside : place < length blocks
  pub is : block_in blocks place ≡ b

-- what changes of a volume are changes of its control blocks
abbrev pub AreOfVolume : Labelled → List BlockChange → Type 0
AreOfVolume v changes = All (λ c. IsOneOf v.blocks c.block) changes

-- so do changes of control blocks, where nothing is found wrong with the table of contents
abbrev pub BlockChangesKeep : Type 0
BlockChangesKeep = (v : Labelled) (changes : List BlockChange) (before : List (List ℕ))
    → SaysOf v.geometry (contents_of v.geometry before) v
    → (contents_of v.geometry before).findings ≡ [] → AreOfVolume v changes → IsSound v → IsClear v before
    → SetsStay v before (all_changed v.geometry changes before)

-- and a rename, also of the data set that is renamed
abbrev pub RenameKeeps : Type 0
RenameKeeps = (v : Labelled) (old new : List ℕ) (before now : List (List ℕ)) → SaysOf v.geometry (contents_of v.geometry before) v
    → (contents_of v.geometry before).findings ≡ [] → renamed old new v.geometry before ≡ Ok now → IsSound v → IsClear v before
    → SetsStay v before now

-- and a deletion
abbrev pub DeletionKeeps : Type 0
DeletionKeeps = (v : Labelled) (name : List ℕ) (before now : List (List ℕ)) → SaysOf v.geometry (contents_of v.geometry before) v
    → (contents_of v.geometry before).findings ≡ [] → deleted name v.geometry before ≡ Ok now → IsSound v → IsClear v before
    → SetsStay v before now

-- and other fields of the volume label
abbrev pub RelabelKeeps : Type 0
RelabelKeeps = (v : Labelled) (fields : LabelFields) (before now : List (List ℕ)) → SaysOf v.geometry (contents_of v.geometry before) v
    → (contents_of v.geometry before).findings ≡ [] → relabelled fields v.geometry before ≡ Ok now → IsSound v → IsClear v before
    → SetsStay v before now
