-- What becomes of the slots of a volume of which a data set is deleted, or why it stays.
use Rattle.std.specs.Prelude.{ℕ, Bool, ◌&&◌, if◌then◌else◌, List, [], ◌∷◌, ◌++◌, fold, bytes_eq, slice_index_or, Option, Some, None, Result, Ok, Err}
use Rattle.std.specs.List.{position, flat_map}
use Rattle.ckd_track.specs.declared.geometries.Geometry.{Geometry}
use Rattle.new_labels.specs.SetBlocks.{record_bytes}
use Rattle.volume_contents.specs.declared.blocks.Block.{Block}
use Rattle.volume_contents.specs.Blocks.{BlockOf, those, is_address}
use Rattle.volume_contents.specs.Contents.{Said, contents_of, no_block}
use Rattle.volume_contents.specs.Sets.{pieces_behind}
use Rattle.volume_changes.specs.declared.blocks.BlockChange.{BlockChange}
use Rattle.volume_changes.specs.declared.refusal.ChangeRefusal.{ChangeRefusal}
use Rattle.volume_changes.specs.declared.refusal.ChangeRefusal.TheVariants as refusal
use Rattle.volume_changes.specs.Blocks.{changed}
use Rattle.volume_changes.specs.Runs.{marks_of}
use Rattle.volume_changes.specs.Plans.{Deletion, deletion_of, nothing_wrong}

-- What a table of contents says behind changes: the same blocks, but those that changed say what was written, and of one that became free
-- nothing is said.
abbrev pub is_of : Block → BlockChange → Bool
is_of b c = is_address c.block.address b.address

abbrev pub change_in : List BlockChange → (i : ℕ) → BlockChange
change_in changes i = slice_index_or changes i (record { block = no_block; key = []; bytes = [] })

abbrev pub behind_change : List BlockChange → Block → Option ℕ → List Block
behind_change changes b None = b ∷ []
behind_change changes b (Some i) = those (BlockOf b.address (change_in changes i).key (change_in changes i).bytes)

abbrev pub block_behind : List BlockChange → Block → List Block
block_behind changes b = behind_change changes b (position (is_of b) changes)

abbrev pub blocks_behind : List BlockChange → (blocks : List Block) → List Block
blocks_behind changes blocks = flat_map (block_behind changes) blocks

-- blocks in bytes: where each stands, its key and its data
abbrev pub block_bytes : Block → List ℕ
block_bytes b = record_bytes b.address ++ (b.key ++ b.bytes)

abbrev pub are_same : (some others : List Block) → Bool
are_same some others = bytes_eq (flat_map block_bytes some) (flat_map block_bytes others)

-- A deletion is confirmed where nothing is wrong with the volume behind it; its table of contents has the blocks that it had, but for those
-- changes; and it says of each track that it is free exactly where the track was free before or is given back.
abbrev pub is_confirmed : Geometry → (blocks : List Block) → Deletion → (after : Said) → Bool
is_confirmed g blocks d after =
    nothing_wrong g after
    && (are_same after.blocks (blocks_behind d.changes blocks) && bytes_eq (marks_of g (pieces_behind after.blocks) []) d.marks)

abbrev pub confirmed : Geometry → (blocks : List Block) → Deletion → (slots : List (List ℕ)) → Result (List (List ℕ)) ChangeRefusal
confirmed g blocks d slots = if is_confirmed g blocks d (contents_of g slots) then Ok slots else Err refusal.Unconfirmed

-- the slots behind changes, one after another
abbrev pub all_changed : Geometry → List BlockChange → (slots : List (List ℕ)) → List (List ℕ)
all_changed g changes slots = fold (λ some c. changed g c some) slots changes

abbrev pub deleted_by : Geometry → (blocks : List Block) → (slots : List (List ℕ)) → Result Deletion ChangeRefusal → Result (List (List ℕ)) ChangeRefusal
deleted_by g blocks slots (Err refusal) = Err refusal
deleted_by g blocks slots (Ok d) = confirmed g blocks d (all_changed g d.changes slots)

abbrev pub deleted : (name : List ℕ) → Geometry → (slots : List (List ℕ)) → Result (List (List ℕ)) ChangeRefusal
deleted name g slots = deleted_by g (contents_of g slots).blocks slots (deletion_of g (contents_of g slots) name)
