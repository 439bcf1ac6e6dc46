-- A small volume: one cylinder of a 2311 with a label, a table of contents on track 1, and a data set on track 5.
use Rattle.std.specs.Prelude.{◌≡◌, ℕ, List, [], ◌∷◌, ◌++◌, replicate, is_ok, Bool, true}
use Rattle.ckd_track.specs.declared.geometries.Geometry.{Geometry}
use Rattle.ckd_track.specs.declared.model.DriveModel.TheVariants.{D2311}
use Rattle.ckd_track.specs.Track.{Record, slot_of}
use Rattle.volume_labels.specs.Labels.{contents_block_of}
use Rattle.volume_contents.specs.Contents.{contents_of}
use Rattle.volume_changes.specs.Volumes.{renamed}
use Rattle.loaded_sets.specs.Volumes.{Labelled, SaysOf}
use Rattle.volume_laws.specs.Space.{IsSound}
use Rattle.volume_laws.specs.Changes.{IsClear}

abbrev pub tiny : Geometry
tiny = record { model = D2311; cylinders = 1; track_size = 4096 }

abbrev pub record_on : (head number : ℕ) → (key area : List ℕ) → Record
record_on head number key area = record { id = 0 ∷ 0 ∷ 0 ∷ head ∷ number ∷ []; key_area = key; data_area = area }

-- a track's slot: its record 0, and these records after it
abbrev pub track_on : (head : ℕ) → List Record → List ℕ
track_on head records =
    slot_of 4096 (record { home_address = 0 ∷ 0 ∷ 0 ∷ 0 ∷ head ∷ []; records = record_on head 0 [] (replicate 8 0) ∷ records })

-- VOL1, the serial number AAAAAA, a byte of security, and the address of the format 4 block: cylinder 0, head 1, record 1
abbrev pub label_bytes : List ℕ
label_bytes = (0xE5 ∷ 0xD6 ∷ 0xD3 ∷ 0xF1 ∷ replicate 7 0xC1) ++ (0 ∷ 0 ∷ 0 ∷ 1 ∷ 1 ∷ replicate 64 0x40)

-- the ten bytes of an extent that is one track of cylinder 0
abbrev pub one_track : (head : ℕ) → List ℕ
one_track head = 1 ∷ 0 ∷ 0 ∷ 0 ∷ 0 ∷ head ∷ 0 ∷ 0 ∷ 0 ∷ head ∷ []

-- format 4: two alternates from head 8 on, and the table's extent
abbrev pub table_bytes : List ℕ
table_bytes = (0xF4 ∷ replicate 7 0) ++ ((0 ∷ 0 ∷ 0 ∷ 8 ∷ 0 ∷ 2 ∷ replicate 47 0) ++ (one_track 1 ++ replicate 25 0))

-- format 1: one extent
abbrev pub set_bytes : List ℕ
set_bytes = (0xF1 ∷ replicate 14 0) ++ ((1 ∷ replicate 45 0) ++ (one_track 5 ++ replicate 25 0))

-- the label is record 3 of track 0
abbrev pub small_slots : List (List ℕ)
small_slots =
    track_on 0 (record_on 0 1 [] [] ∷ record_on 0 2 [] [] ∷ record_on 0 3 [] label_bytes ∷ [])
    ∷ track_on 1 (record_on 1 1 (replicate 44 4) table_bytes ∷ record_on 1 2 (replicate 44 0xC1) set_bytes ∷ [])
    ∷ replicate 8 (track_on 2 [])

abbrev pub small : Labelled
small = record {
  geometry = tiny;
  label = record {
    serial = replicate 6 0xC1;
    contents = record { track = record { cylinder = 0; head = 1 }; number = 1 };
    owner = replicate 14 0x40;
  };
  table = contents_block_of table_bytes;
  blocks = (contents_of tiny small_slots).blocks;
}

-- It is as the laws ask for, and its data set can be renamed: so they say something of it.
pub record SmallIsRight : Type 0 where
  pub says : SaysOf tiny (contents_of tiny small_slots) small
  pub nothing : (contents_of tiny small_slots).findings ≡ []
  pub sound : IsSound small
  pub clear : IsClear small small_slots
  pub renamed : is_ok (renamed (replicate 44 0xC1) (replicate 44 0xC2) tiny small_slots) ≡ true
