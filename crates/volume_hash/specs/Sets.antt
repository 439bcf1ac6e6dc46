-- The lines of the data sets of a volume and of their members, in the order of the volume table of contents and of directories; and
-- whether all of them are whole.
use Rattle.std.specs.Prelude.{ℕ, ◌==◌, Bool, true, ◌&&◌, ◌||◌, if◌then◌else◌, List, [], ◌++◌, length}
use Rattle.std.specs.List.{flat_map, list_all}
use Rattle.hex.specs.Hex.{encode_lower}
use Rattle.ckd_track.specs.declared.geometries.Geometry.{Geometry}
use Rattle.volume_labels.specs.declared.fields.Extent.{Extent}
use Rattle.volume_labels.specs.declared.blocks.DataSetBlock.{DataSetBlock}
use Rattle.volume_labels.specs.Labels.{data_set_block_of}
use Rattle.volume_labels.specs.declared.directories.DirectoryEntry.{DirectoryEntry}
use Rattle.volume_labels.specs.Names.{safe_name_of}
use Rattle.volume_contents.specs.declared.blocks.Block.{Block}
use Rattle.volume_contents.specs.declared.findings.Finding.{Finding}
use Rattle.volume_contents.specs.Contents.{contents_of}
use Rattle.volume_contents.specs.Sets.{is_data_set, extents_behind}
use Rattle.volume_hash.specs.Lines.{hash_text}
use Rattle.volume_hash.specs.Message.{unreadable_in}
use Rattle.volume_hash.specs.SetLines.{Shown, set_text, member_text, findings_text}
use Rattle.volume_hash.specs.SetMessage.{beginning, blocks_hash, are_whole, is_partitioned, members_in, member_is_whole, library_hash, library_is_whole}

-- what of it, where that is asked for
abbrev pub where_asked : Bool → List ℕ → List ℕ
where_asked asked text = if asked then text else []

-- a member of the data set of this name
abbrev pub member_line : Shown → (name : List ℕ) → List Extent → Geometry → (slots : List (List ℕ)) → DirectoryEntry → List ℕ
member_line f name extents g slots e = where_asked f.members
    (member_text f name (safe_name_of e.name) (encode_lower (blocks_hash extents e.address g slots)) (member_is_whole extents g slots e))

-- a data set without members
abbrev pub blocks_line : Shown → (name : List ℕ) → List Extent → Geometry → (slots : List (List ℕ)) → List ℕ
blocks_line f name extents g slots =
    set_text f name (encode_lower (blocks_hash extents beginning g slots)) (are_whole extents beginning g slots)

-- a data set with members, and then these
abbrev pub library_lines : Shown → (name : List ℕ) → List Extent → Geometry → (slots : List (List ℕ)) → List ℕ
library_lines f name extents g slots =
    set_text f name (encode_lower (library_hash extents g slots)) (library_is_whole extents g slots)
    ++ flat_map (member_line f name extents g slots) (members_in extents g slots).entries

abbrev pub set_lines : Shown → DataSetBlock → List Extent → Geometry → (slots : List (List ℕ)) → List ℕ
set_lines f d extents g slots =
    if is_partitioned d then library_lines f (safe_name_of d.name) extents g slots else blocks_line f (safe_name_of d.name) extents g slots

abbrev pub set_is_whole : DataSetBlock → List Extent → Geometry → (slots : List (List ℕ)) → Bool
set_is_whole d extents g slots = if is_partitioned d then library_is_whole extents g slots else are_whole extents beginning g slots

-- the data set of a control block of format 1; of another block nothing
abbrev pub block_lines : Shown → List Block → Block → Geometry → (slots : List (List ℕ)) → List ℕ
block_lines f blocks b g slots =
    if is_data_set b.kind then set_lines f (data_set_block_of b.key b.bytes) (extents_behind blocks b) g slots else []

abbrev pub block_is_whole : List Block → Block → Geometry → (slots : List (List ℕ)) → Bool
block_is_whole blocks b g slots =
    if is_data_set b.kind then set_is_whole (data_set_block_of b.key b.bytes) (extents_behind blocks b) g slots else true

-- those of all control blocks, in their order
abbrev pub blocks_lines : Shown → List Block → Geometry → (slots : List (List ℕ)) → List ℕ
blocks_lines f blocks g slots = flat_map (λ b. block_lines f blocks b g slots) blocks

abbrev pub blocks_are_whole : List Block → Geometry → (slots : List (List ℕ)) → Bool
blocks_are_whole blocks g slots = list_all (λ b. block_is_whole blocks b g slots) blocks

-- what is wrong with the label or with the table of contents is told first
abbrev pub none_found : List Finding → Bool
none_found findings = length findings == 0

abbrev pub findings_lines : Shown → List Finding → List ℕ
findings_lines f findings = if none_found findings then [] else findings_text f

abbrev pub contents_lines : Shown → Geometry → (slots : List (List ℕ)) → List ℕ
contents_lines f g slots =
    findings_lines f (contents_of g slots).findings ++ blocks_lines f (contents_of g slots).blocks g slots

abbrev pub contents_are_whole : Geometry → (slots : List (List ℕ)) → Bool
contents_are_whole g slots = none_found (contents_of g slots).findings && blocks_are_whole (contents_of g slots).blocks g slots

-- data sets are asked for alone, or with their members
abbrev pub asks_sets : Shown → Bool
asks_sets f = f.sets || f.members

-- what is printed of a volume: its own hash, and those of its data sets and members that are asked for
abbrev pub hashes_text : Shown → Geometry → (slots : List (List ℕ)) → List ℕ
hashes_text f g slots = hash_text f.path f.json g slots ++ where_asked (asks_sets f) (contents_lines f g slots)

-- all of it is whole
abbrev pub sets_are_whole : Shown → Geometry → (slots : List (List ℕ)) → Bool
sets_are_whole f g slots = if asks_sets f then contents_are_whole g slots else true

abbrev pub is_all_whole : Shown → Geometry → (slots : List (List ℕ)) → Bool
is_all_whole f g slots = (unreadable_in g slots == 0) && sets_are_whole f g slots
