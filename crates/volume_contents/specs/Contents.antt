-- What a volume says of itself: its label, its format 4 block, the control blocks of its volume table of contents, and what is wrong.
use Rattle.std.specs.Prelude.{◌≡◌, ℕ, ◌+◌, ◌==◌, Bool, nat_lt, if◌then◌else◌, List, [], ◌∷◌, ◌++◌, length, slice_index_or, Option, Some, None, Result, Ok, Err}
use Rattle.std.specs.List.{position}
use Rattle.ckd_track.specs.declared.fault.SlotFault.{SlotFault}
use Rattle.ckd_track.specs.declared.geometries.Geometry.{Geometry}
use Rattle.ckd_track.specs.Geometry.{track_at}
use Rattle.ckd_track.specs.Track.{Track, track_of, record_in}
use Rattle.volume_labels.specs.declared.fields.TrackAddress.{TrackAddress}
use Rattle.volume_labels.specs.declared.fields.RecordAddress.{RecordAddress}
use Rattle.volume_labels.specs.declared.fields.Extent.{Extent}
use Rattle.volume_labels.specs.declared.labels.VolumeLabel.{VolumeLabel}
use Rattle.volume_labels.specs.declared.blocks.ContentsBlock.{ContentsBlock}
use Rattle.volume_labels.specs.declared.blocks.BlockKind.{BlockKind}
use Rattle.volume_labels.specs.declared.blocks.BlockKind.TheVariants as kind
use Rattle.volume_labels.specs.Labels.{volume_label_of, contents_block_of}
use Rattle.dasd_volumes.specs.Reading.{KnownVolume}
use Rattle.dasd_volumes.specs.Volumes.{of_each}
use Rattle.volume_contents.specs.declared.blocks.Block.{Block}
use Rattle.volume_contents.specs.declared.reading.Contents.{Contents}
use Rattle.volume_contents.specs.declared.reading.Found.{Found}
use Rattle.volume_contents.specs.declared.runs.Run.{Run}
use Rattle.volume_contents.specs.declared.findings.Problem.{Problem}
use Rattle.volume_contents.specs.declared.findings.Problem.TheVariants.{NoLabel, NoContents, BadContents}
use Rattle.volume_contents.specs.declared.findings.Finding.{Finding}
use Rattle.volume_contents.specs.Blocks.{has_address, blocks_at, findings_at, Adds}
use Rattle.volume_contents.specs.Runs.{exists_on, address_of_number, is_table_extent, walked_of}

-- what is known of a volume's contents
pub record Said : Type 0 where
  pub label : Option VolumeLabel
  pub table : Option ContentsBlock
  -- the control blocks in use, in the order of the volume table of contents
  pub blocks : List Block
  pub findings : List Finding

-- the slot of the track of this number
abbrev pub slot_at : (slots : List (List ℕ)) → ℕ → List ℕ
slot_at slots n = slice_index_or slots n []

-- The volume label is the third record behind record 0 of the first track.
abbrev pub label_in : Result Track SlotFault → Option VolumeLabel
label_in (Ok t) = if nat_lt 3 (length t.records) then volume_label_of (record_in t 3).data_area else None
label_in (Err fault) = None

abbrev pub label_on : Geometry → (slots : List (List ℕ)) → Option VolumeLabel
label_on g slots = label_in (track_of (slot_at slots 0))

-- The format 4 block stands at the address that the label has.
abbrev pub table_of_kind : Block → BlockKind → Option ContentsBlock
table_of_kind b kind.Contents = Some (contents_block_of b.bytes)
table_of_kind b other = None

abbrev pub no_block : Block
no_block = record {
  address = record { track = record { cylinder = 0; head = 0 }; number = 0 };
  kind = kind.Free;
  key = [];
  bytes = [];
}

abbrev pub block_in : List Block → ℕ → Block
block_in blocks i = slice_index_or blocks i no_block

abbrev pub table_found : List Block → Option ℕ → Option ContentsBlock
table_found blocks None = None
table_found blocks (Some i) = table_of_kind (block_in blocks i) (block_in blocks i).kind

abbrev pub table_in : RecordAddress → List Block → Option ContentsBlock
table_in a blocks = table_found blocks (position (has_address a) blocks)

abbrev pub table_on : RecordAddress → Geometry → (slots : List (List ℕ)) → Option ContentsBlock
table_on a g slots =
    if exists_on g a.track then table_in a (blocks_at a.track (track_of (slot_at slots (track_at g a.track.cylinder a.track.head)))) else None

-- The control blocks are those of the tracks of the volume table of contents, track by track.
abbrev pub blocks_of_track : Geometry → (slots : List (List ℕ)) → ℕ → List Block
blocks_of_track g slots n = blocks_at (address_of_number g n) (track_of (slot_at slots n))

abbrev pub findings_of_track : Geometry → (slots : List (List ℕ)) → ℕ → List Finding
findings_of_track g slots n = findings_at (address_of_number g n) (track_of (slot_at slots n))

abbrev pub blocks_of_run : Geometry → (slots : List (List ℕ)) → Run → List Block
blocks_of_run g slots r = of_each (λ i. blocks_of_track g slots (r.first + i)) r.tracks

abbrev pub findings_of_run : Geometry → (slots : List (List ℕ)) → Run → List Finding
findings_of_run g slots r = of_each (λ i. findings_of_track g slots (r.first + i)) r.tracks

-- the record of the volume label
abbrev pub label_place : RecordAddress
label_place = record { track = record { cylinder = 0; head = 0 }; number = 3 }

abbrev pub bad_extent : Geometry → RecordAddress → Extent → List Finding
bad_extent g a e = if is_table_extent g a.track e then [] else record { place = a; problem = BadContents e } ∷ []

abbrev pub no_label : Said
no_label = record { label = None; table = None; blocks = []; findings = record { place = label_place; problem = NoLabel } ∷ [] }

abbrev pub no_table : VolumeLabel → Said
no_table l = record { label = Some l; table = None; blocks = []; findings = record { place = label_place; problem = NoContents l.contents } ∷ [] }

abbrev pub said_with : VolumeLabel → ContentsBlock → Geometry → (slots : List (List ℕ)) → Said
said_with l t g slots = record {
  label = Some l;
  table = Some t;
  blocks = blocks_of_run g slots (walked_of g l.contents.track t.extent);
  findings = bad_extent g l.contents t.extent ++ findings_of_run g slots (walked_of g l.contents.track t.extent);
}

abbrev pub said_of_table : VolumeLabel → Geometry → (slots : List (List ℕ)) → Option ContentsBlock → Said
said_of_table l g slots None = no_table l
said_of_table l g slots (Some t) = said_with l t g slots

-- what a volume with this label says
abbrev pub said_behind : VolumeLabel → Geometry → (slots : List (List ℕ)) → Said
said_behind l g slots = said_of_table l g slots (table_on l.contents g slots)

abbrev pub said_of_label : Geometry → (slots : List (List ℕ)) → Option VolumeLabel → Said
said_of_label g slots None = no_label
said_of_label g slots (Some l) = said_behind l g slots

-- what a volume of these slots says of itself
abbrev pub contents_of : Geometry → (slots : List (List ℕ)) → Said
contents_of g slots = said_of_label g slots (label_on g slots)

-- this is what is said
pub record SaysOf (s : Said) (c : Contents) : Type 0 where
  pub label : c.label ≡ s.label
  pub table : c.table ≡ s.table
  pub blocks : c.found.blocks.items ≡ s.blocks
  pub findings : c.found.findings.items ≡ s.findings

-- this is what is said of a volume's slots, if they are known
abbrev pub SaysOfSlots : KnownVolume → (Geometry → List (List ℕ) → Said) → Contents → Type 0
SaysOfSlots v said c = (slots : List (List ℕ)) → v.slots ≡ Some slots → SaysOf (said v.geometry slots) c

-- this is what a volume says of itself, if its slots are known
abbrev pub IsContents : KnownVolume → Contents → Type 0
IsContents v c = SaysOfSlots v contents_of c

abbrev pub IsOfSlots : {A : Type 0} → KnownVolume → (Geometry → List (List ℕ) → A) → A → Type 0
IsOfSlots v of x = (slots : List (List ℕ)) → v.slots ≡ Some slots → x ≡ of v.geometry slots

-- the blocks and findings of a track, or of a run of tracks, were added, if the volume's slots are known
abbrev pub AddsOfTrack : KnownVolume → ℕ → (before now : Found) → Type 0
AddsOfTrack v n before now =
    (slots : List (List ℕ)) → v.slots ≡ Some slots → Adds before now (blocks_of_track v.geometry slots n) (findings_of_track v.geometry slots n)

abbrev pub AddsOfSlots : KnownVolume → Run → (before now : Found) → Type 0
AddsOfSlots v r before now =
    (slots : List (List ℕ)) → v.slots ≡ Some slots → Adds before now (blocks_of_run v.geometry slots r) (findings_of_run v.geometry slots r)
