-- A volume with a data set that was put onto it from a file.
use Rattle.std.specs.Prelude.{◌≡◌, ◌⊎◌, ℕ, ◌-◌, ◌≤◌, List, length, Ok, Err}
use Rattle.ckd_track.specs.declared.geometries.Geometry.{Geometry}
use Rattle.dasd_extract.specs.declared.blocks.ExtractedForm.{ExtractedForm}
use Rattle.dasd_extract.specs.declared.blocks.ExtractedForm.TheVariants as form
use Rattle.dasd_extract.specs.Walk.{wanted, source_written}
use Rattle.record_tracks.specs.Blocks.{areas_of, block_areas}
use Rattle.record_tracks.specs.Extracted.{first_block, form_of}
use Rattle.record_tracks.specs.ReadBack.{ended_by_file}
use Rattle.volume_labels.specs.declared.records.RecordForm.TheVariants.{Fixed}
use Rattle.record_tracks.specs.declared.blocks.Cut.TheVariants.{Length}
use Rattle.record_tracks.specs.TextRecords.{records_of}
use Rattle.record_tracks.specs.Printed.{printed}
use Rattle.volume_contents.specs.declared.blocks.Block.{Block}
use Rattle.volume_contents.specs.Contents.{contents_of, block_in}
use Rattle.volume_contents.specs.Sets.{extents_behind}
use Rattle.changed_volumes.specs.Changes.{IsNotDone}
use Rattle.loaded_sets.specs.declared.plans.PlacedSet.{PlacedSet}
use Rattle.loaded_sets.specs.Volumes.{Labelled, SaysOf}
use Rattle.loaded_sets.specs.Sets.{areas}
use Rattle.loaded_sets.specs.Placed.{GetsSet, HasNoPlace}
use Rattle.loaded_sets.specs.declared.contents.LoadedSet.{LoadedSet}
use Rattle.loaded_sets.specs.Faults.{LoadFault}
use Rattle.loaded_sets.specs.declared.fault.LoadRefusal.{LoadRefusal}
use Rattle.loaded_sets.specs.declared.fault.LoadRefusal.TheVariants as refusal
use Rattle.loaded_sets.specs.Contents.{FileBlocks, label_of, blocks_on}

-- The records of a data set with these blocks: the blocks, and an end of file behind them; the last one of its label is the last block.
pub record IsSetOf (set : LoadedSet) (b : FileBlocks) (p : PlacedSet) : Type 0 where
  pub name : p.name ≡ set.name
  pub label : p.label ≡ label_of set.form set.kept b.layout
  pub records : areas p ≡ areas_of b.cut b.bytes
  pub last : p.last ≡ length (block_areas b.cut b.bytes)

-- What is extracted of the data set of a format 1 block, in a form of the reader's: all of these bytes, and then an end of file on the last
-- of these tracks, its first.
abbrev pub IsExtracted : ExtractedForm → Geometry → (slots : List (List ℕ)) → Block → (bytes : List ℕ) → (tracks : ℕ) → Type 0
IsExtracted f g slots b bytes tracks =
    (most : ℕ) → tracks ≤ most
    → source_written (wanted f (extents_behind (contents_of g slots).blocks b) first_block most) g slots ≡ ended_by_file bytes (tracks - 1)

-- the blocks have records of this length, one behind another, which are those of a text
pub record HasLines (b : FileBlocks) (size : ℕ) (text : List ℕ) : Type 0 where
  pub some : 1 ≤ size
  pub fixed : b.layout.form ≡ Fixed size
  pub cut : b.cut ≡ Length b.layout.longest
  pub records : records_of size text ≡ Ok b.bytes

-- A volume of these slots gets the data set with these blocks, and a reader extracts them of it as the file has them; and, where they are the
-- records of a text, as text the lines of it, without the blanks at the end of each.
pub record GetsBlocks (v : Labelled) (set : LoadedSet) (b : FileBlocks) (before : List (List ℕ)) (tracks : ℕ) (now : List (List ℕ)) : Type 0 where
  pub placed : PlacedSet
  pub is : IsSetOf set b placed
  pub gets : GetsSet v placed before tracks now
  pub extracted : IsExtracted (form_of b.cut) v.geometry now (block_in (contents_of v.geometry now).blocks gets.place) b.bytes
      gets.gets.room.used
  pub text : (size : ℕ) (text : List ℕ) → HasLines b size text
      → IsExtracted (form.Text b.layout) v.geometry now (block_in (contents_of v.geometry now).blocks gets.place) (printed text)
      gets.gets.room.used

-- the volume is one that can get the data set, whose file has these blocks, and gets it
pub record Loaded (set : LoadedSet) (g : Geometry) (before : List (List ℕ)) (tracks : ℕ) (now : List (List ℕ)) : Type 0 where
  pub volume : Labelled
  pub says : SaysOf g (contents_of g before) volume
  pub blocks : FileBlocks
  pub fits : blocks_on g set (contents_of g before) ≡ Ok blocks
  pub loaded : GetsBlocks volume set blocks before tracks now

-- the volume would get it with these blocks
pub record WouldFit (set : LoadedSet) (g : Geometry) (slots : List (List ℕ)) (v : Labelled) (b : FileBlocks) (p : PlacedSet) : Type 0 where
  pub says : SaysOf g (contents_of g slots) v
  pub fits : blocks_on g set (contents_of g slots) ≡ Ok b
  pub is : IsSetOf set b p

-- why it has no place for records
abbrev pub HasNone : LoadRefusal → Labelled → PlacedSet → (slots : List (List ℕ)) → Type 0
HasNone (refusal.Placed r) v p slots = HasNoPlace r v p slots
HasNone r v p slots = ⊥

-- Why a volume does not get a data set: the file has no such blocks, or the volume gets none, for this reason; or it would get it, and has no
-- place for it.
abbrev pub Refuses : LoadRefusal → LoadedSet → Geometry → (slots : List (List ℕ)) → Type 0
Refuses r set g slots =
    (blocks_on g set (contents_of g slots) ≡ Err r)
    ⊎ ((v : Labelled) × (b : FileBlocks) × (p : PlacedSet) × WouldFit set g slots v b p × HasNone r v p slots)

-- it is refused so, or something hinders it
abbrev pub IsNotLoaded : LoadFault → LoadedSet → Geometry → (slots : List (List ℕ)) → Type 0
IsNotLoaded f set g slots = IsNotDone f (λ r. Refuses r set g slots)
