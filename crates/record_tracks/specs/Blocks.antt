-- The blocks of a file: its bytes in their order, cut into blocks.
use Rattle.std.specs.Prelude.{◌≡◌, ℕ, zero, suc, ◌+◌, ◌≤◌, List, [], ◌∷◌, ◌++◌, length, map, take, drop, slice_index, All}
use Rattle.ckd_track.specs.declared.model.DriveModel.{DriveModel}
use Rattle.volume_labels.specs.declared.records.RecordForm.{RecordForm}
use Rattle.volume_labels.specs.declared.records.RecordForm.TheVariants as form
use Rattle.volume_labels.specs.Records.{number_at}
use Rattle.record_tracks.specs.Records.{Areas, end_of_file, GoesOn}
use Rattle.record_tracks.specs.declared.blocks.Cut.{Cut}
use Rattle.record_tracks.specs.declared.blocks.Cut.TheVariants.{Length, Described, WithLengths}

-- blocks of records of variable length say their own lengths; all others are as long as the longest, but for the last one
abbrev pub cut_by : RecordForm → (longest : ℕ) → Cut
cut_by (form.Fixed size) longest = Length longest
cut_by form.Undefined longest = Length longest
cut_by form.Variable longest = Described
cut_by form.Spanned longest = Described

-- the lengths of the first block's key and data, where they stand before it: behind a byte 1, in a byte and in two
abbrev pub key_size : (bytes : List ℕ) → ℕ
key_size bytes = slice_index bytes 1

abbrev pub data_size : (bytes : List ℕ) → ℕ
data_size bytes = number_at bytes 2

-- how many bytes the first block takes, with its lengths where these stand before it
abbrev pub size_of : Cut → (bytes : List ℕ) → ℕ
size_of (Length size) bytes = size
size_of Described bytes = number_at bytes 0
size_of WithLengths bytes = 4 + (key_size bytes + data_size bytes)

-- its key and its data, as far as there are bytes; only where their lengths stand before them, a block has a key
abbrev pub first_areas : Cut → (bytes : List ℕ) → Areas
first_areas (Length size) bytes = record { key_area = []; data_area = take size bytes }
first_areas Described bytes = record { key_area = []; data_area = take (number_at bytes 0) bytes }
first_areas WithLengths bytes = record {
  key_area = take (key_size bytes) (drop 4 bytes);
  data_area = take (data_size bytes) (drop (4 + key_size bytes) bytes);
}

-- The bytes from each block on, those from the first one before the others. No more blocks are looked for than that.
unfoldable pub rests_to : Cut → (most : ℕ) → (bytes : List ℕ) → List (List ℕ)
rests_to cut zero bytes = []
rests_to cut (suc most) [] = []
rests_to cut (suc most) (b ∷ others) = (b ∷ others) ∷ rests_to cut most (drop (size_of cut (b ∷ others)) (b ∷ others))

-- Each block takes bytes, so their number bounds that of the blocks.
abbrev pub rests_of : Cut → (bytes : List ℕ) → List (List ℕ)
rests_of cut bytes = rests_to cut (length bytes) bytes

-- key and data of each block, in their order
abbrev pub block_areas : Cut → (bytes : List ℕ) → List Areas
block_areas cut bytes = map (first_areas cut) (rests_of cut bytes)

-- those of all blocks, and behind them the end of file
abbrev pub areas_of : Cut → (bytes : List ℕ) → List Areas
areas_of cut bytes = block_areas cut bytes ++ (end_of_file ∷ [])

-- a block that says its lengths ends within the bytes, and begins with a byte 1 where they stand before it
abbrev pub IsWhole : Cut → (bytes : List ℕ) → Type 0
IsWhole (Length size) bytes = Unit {0}
IsWhole Described bytes = number_at bytes 0 ≤ length bytes
IsWhole WithLengths bytes = (slice_index bytes 0 ≡ 1) × (size_of WithLengths bytes ≤ length bytes)

-- The first block of the bytes has data, is whole, and goes on a track of the drive.
pub record IsBlock (model : DriveModel) (cut : Cut) (bytes : List ℕ) : Type 0 where
  pub some : 1 ≤ length (first_areas cut bytes).data_area
  pub whole : IsWhole cut bytes
  pub goes : GoesOn model (first_areas cut bytes)

-- so does each block of a file
abbrev pub AreBlocks : DriveModel → Cut → (bytes : List ℕ) → Type 0
AreBlocks model cut bytes = All (IsBlock model cut) (rests_of cut bytes)
