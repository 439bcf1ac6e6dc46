-- The control blocks of a track, and what is wrong with its records.
use Rattle.std.specs.Prelude.{◌≡◌, ℕ, ◌+◌, ◌-◌, ◌==◌, Bool, true, false, ◌&&◌, not, if◌then◌else◌, List, [], ◌∷◌, ◌++◌, length, slice_index, Option, Some, None}
use Rattle.std.specs.Prelude.{Result, Ok, Err}
use Rattle.ckd_track.specs.declared.fault.SlotFault.{SlotFault}
use Rattle.ckd_track.specs.Track.{Record, Track, record_in}
use Rattle.volume_labels.specs.declared.fields.TrackAddress.{TrackAddress}
use Rattle.volume_labels.specs.declared.fields.RecordAddress.{RecordAddress}
use Rattle.volume_labels.specs.declared.blocks.BlockKind.{BlockKind}
use Rattle.volume_labels.specs.declared.blocks.BlockKind.TheVariants.{Free, DataSet, IndexedSequential, MoreExtents, Contents, FreeSpace, SharedCylinders}
use Rattle.volume_labels.specs.declared.blocks.BlockKind.TheVariants.{Unknown}
use Rattle.volume_labels.specs.Labels.{block_kind_of}
use Rattle.volume_labels.specs.Blocks.{has_key_of}
use Rattle.dasd_volumes.specs.Volumes.{of_each}
use Rattle.volume_contents.specs.declared.blocks.Block.{Block}
use Rattle.volume_contents.specs.declared.reading.Found.{Found}
use Rattle.volume_contents.specs.declared.findings.Problem.{Problem}
use Rattle.volume_contents.specs.declared.findings.Problem.TheVariants.{Unreadable, NoBlock, UnknownFormat, OtherKey}
use Rattle.volume_contents.specs.declared.findings.Finding.{Finding}

-- two addresses are the same
abbrev pub is_address : RecordAddress → RecordAddress → Bool
is_address a b = ((a.track.cylinder == b.track.cylinder) && (a.track.head == b.track.head)) && (a.number == b.number)

-- a block stands at an address
abbrev pub has_address : RecordAddress → Block → Bool
has_address a b = is_address b.address a

-- where a record of a track stands: the track, and the number in the record's count area
abbrev pub address_of_record : TrackAddress → Record → RecordAddress
address_of_record t r = record { track = t; number = slice_index r.id 4 }

-- the block that a record is; none where it is free, or no block
abbrev pub of_kind : RecordAddress → (key bytes : List ℕ) → Option BlockKind → Option Block
of_kind a key bytes None = None
of_kind a key bytes (Some Free) = None
of_kind a key bytes (Some kind) = Some (record { address = a; kind = kind; key = key; bytes = bytes })

abbrev pub BlockOf : RecordAddress → (key bytes : List ℕ) → Option Block
BlockOf a key bytes = of_kind a key bytes (block_kind_of key bytes)

-- what is wrong with a record: its lengths are those of no block, its format is unknown, or its key is another format's
abbrev pub problem_of_kind : (key bytes : List ℕ) → Option BlockKind → Option Problem
problem_of_kind key bytes None = Some NoBlock
problem_of_kind key bytes (Some Unknown) = Some (UnknownFormat (slice_index bytes 0))
problem_of_kind key bytes (Some kind) = if has_key_of kind key then None else Some OtherKey

abbrev pub problem_of : (key bytes : List ℕ) → Option Problem
problem_of key bytes = problem_of_kind key bytes (block_kind_of key bytes)

abbrev pub those : {A : Type 0} → Option A → List A
those None = []
those (Some x) = x ∷ []

abbrev pub found_at : RecordAddress → Option Problem → List Finding
found_at a None = []
found_at a (Some p) = record { place = a; problem = p } ∷ []

-- the blocks and the findings of record i of a track; record 0 has none
abbrev pub blocks_in : TrackAddress → Track → (i : ℕ) → List Block
blocks_in a t i =
    if i == 0 then []
    else those (BlockOf (address_of_record a (record_in t i)) (record_in t i).key_area (record_in t i).data_area)

abbrev pub findings_in : TrackAddress → Track → (i : ℕ) → List Finding
findings_in a t i =
    if i == 0 then []
    else found_at (address_of_record a (record_in t i)) (problem_of (record_in t i).key_area (record_in t i).data_area)

-- those of a track, or that it can't be read
abbrev pub blocks_at : TrackAddress → Result Track SlotFault → List Block
blocks_at a (Ok t) = of_each (blocks_in a t) (length t.records)
blocks_at a (Err fault) = []

abbrev pub findings_at : TrackAddress → Result Track SlotFault → List Finding
findings_at a (Ok t) = of_each (findings_in a t) (length t.records)
findings_at a (Err fault) = record { place = record { track = a; number = 0 }; problem = Unreadable fault } ∷ []

-- these blocks and findings were added
pub record Adds (before now : Found) (more : List Block) (wrong : List Finding) : Type 0 where
  pub blocks : now.blocks.items ≡ before.blocks.items ++ more
  pub findings : now.findings.items ≡ before.findings.items ++ wrong
