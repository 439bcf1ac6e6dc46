-- Data sets and free tracks, by the control blocks that say them.
use Rattle.std.specs.Prelude.{◌≡◌, ℕ, ◌+◌, ◌*◌, ◌==◌, Bool, true, false, ◌&&◌, if◌then◌else◌, List, [], ◌∷◌, ◌++◌, length, Option, Some, None, bytes_eq}
use Rattle.std.specs.List.{position, flat_map}
use Rattle.ckd_track.specs.declared.geometries.Geometry.{Geometry}
use Rattle.ckd_track.specs.Model.{heads_of}
use Rattle.volume_labels.specs.declared.fields.Extent.{Extent}
use Rattle.volume_labels.specs.declared.fields.FreeTracks.{FreeTracks}
use Rattle.volume_labels.specs.declared.fields.RecordAddress.{RecordAddress}
use Rattle.volume_labels.specs.declared.blocks.BlockKind.{BlockKind}
use Rattle.volume_labels.specs.declared.blocks.BlockKind.TheVariants.{Free, DataSet, IndexedSequential, MoreExtents, Contents, FreeSpace, SharedCylinders}
use Rattle.volume_labels.specs.declared.blocks.BlockKind.TheVariants.{Unknown}
use Rattle.volume_labels.specs.declared.blocks.DataSetBlock.{DataSetBlock}
use Rattle.volume_labels.specs.Labels.{data_set_block_of}
use Rattle.volume_labels.specs.Blocks.{extents_block_of, free_space_block_of}
use Rattle.volume_labels.specs.Lines.{without_blanks}
use Rattle.volume_contents.specs.declared.blocks.Block.{Block}
use Rattle.volume_contents.specs.declared.sets.DataSet as set
use Rattle.volume_contents.specs.declared.sets.FreeSpace as space
use Rattle.volume_contents.specs.Contents.{block_in}
use Rattle.volume_contents.specs.Chains.{Links, ended, links_from}

-- those of ten bytes that are extents: their type is not 0
abbrev pub is_extent : Extent → List Extent
is_extent e = if e.kind == 0 then [] else e ∷ []

abbrev pub used_extents : List Extent → List Extent
used_extents extents = flat_map is_extent extents

-- the extents of a block of format 3
abbrev pub extents_of_kind : Block → BlockKind → List Extent
extents_of_kind b MoreExtents = used_extents (extents_block_of b.key b.bytes).extents
extents_of_kind b other = []

abbrev pub extents_in : Block → List Extent
extents_in b = extents_of_kind b b.kind

-- the three extents of a format 1 block
abbrev pub first_extents : DataSetBlock → List Extent
first_extents d = used_extents (d.first_extent ∷ d.second_extent ∷ d.third_extent ∷ [])

-- a format 1 block and the chain behind it, of no more than 21 blocks, say a data set
abbrev pub behind_block : List Block → Block → Links
behind_block blocks b = links_from 21 false blocks (data_set_block_of b.key b.bytes).next

-- the extents of a data set: those of its format 1 block, and those of format 3 behind it
abbrev pub extents_behind : List Block → Block → List Extent
extents_behind blocks b = first_extents (data_set_block_of b.key b.bytes) ++ flat_map extents_in (behind_block blocks b).links

pub record DataSetOf (blocks : List Block) (b : Block) (d : set.DataSet) : Type 0 where
  pub address : d.address ≡ b.address
  pub block : d.block ≡ data_set_block_of b.key b.bytes
  pub extents : d.extents.items ≡ extents_behind blocks b
  pub fault : d.fault ≡ (behind_block blocks b).fault

-- a format 1 block has this name, whatever blanks stand behind it
abbrev pub is_data_set : BlockKind → Bool
is_data_set DataSet = true
is_data_set other = false

abbrev pub has_name : (name : List ℕ) → Block → Bool
has_name name b = is_data_set b.kind && bytes_eq (without_blanks b.key) (without_blanks name)

abbrev pub FoundAt : List Block → Option ℕ → Option set.DataSet → Type 0
FoundAt blocks (Some i) (Some d) = DataSetOf blocks (block_in blocks i) d
FoundAt blocks None None = Unit {0}
FoundAt blocks position found = ⊥

-- the data set of the first format 1 block with this name, if there is one
abbrev pub FoundOf : List Block → (name : List ℕ) → Option set.DataSet → Type 0
FoundOf blocks name found = FoundAt blocks (position (has_name name) blocks) found

-- Free tracks: some of those of five bytes.
abbrev pub is_piece : FreeTracks → List FreeTracks
is_piece f = if (f.cylinders == 0) && (f.tracks == 0) then [] else f ∷ []

abbrev pub used_pieces : List FreeTracks → List FreeTracks
used_pieces pieces = flat_map is_piece pieces

abbrev pub pieces_in : Block → List FreeTracks
pieces_in b = used_pieces (free_space_block_of b.key b.bytes).free

abbrev pub is_free_space : BlockKind → Bool
is_free_space FreeSpace = true
is_free_space other = false

abbrev pub free_links : List Block → Option ℕ → Links
free_links blocks None = ended None
free_links blocks (Some i) = links_from (length blocks) true blocks (block_in blocks i).address

-- the chain from the first format 5 block on says the free tracks
abbrev pub free_chain : List Block → Links
free_chain blocks = free_links blocks (position (λ b. is_free_space b.kind) blocks)

abbrev pub pieces_behind : List Block → List FreeTracks
pieces_behind blocks = flat_map pieces_in (free_chain blocks).links

-- how many tracks a piece has
abbrev pub number_of_free : Geometry → FreeTracks → ℕ
number_of_free g f = f.cylinders * heads_of g.model + f.tracks

abbrev pub address_found : List Block → Option ℕ → Option RecordAddress
address_found blocks None = None
address_found blocks (Some i) = Some (block_in blocks i).address

-- where the first format 5 block stands
abbrev pub free_place : List Block → Option RecordAddress
free_place blocks = address_found blocks (position (λ b. is_free_space b.kind) blocks)

pub record FreeSpaceOf (blocks : List Block) (f : space.FreeSpace) : Type 0 where
  pub address : f.address ≡ free_place blocks
  pub pieces : f.pieces.items ≡ pieces_behind blocks
  pub fault : f.fault ≡ (free_chain blocks).fault
