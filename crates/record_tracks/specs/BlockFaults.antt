-- Why bytes are no blocks of a data set.
use Rattle.std.specs.Prelude.{◌≡◌, ℕ, zero, suc, ◌+◌, ◌%◌, ◌==◌, Bool, true, false, ◌||◌, not, nat_lt, if◌then◌else◌, List, [], ◌∷◌, length, take}
use Rattle.std.specs.Prelude.{slice_index, Option, Some, None, Result, Ok, Err}
use Rattle.ckd_track.specs.declared.model.DriveModel.{DriveModel}
use Rattle.ckd_track.specs.Model.{capacity_of}
use Rattle.volume_labels.specs.declared.records.RecordForm.{RecordForm}
use Rattle.volume_labels.specs.declared.records.RecordForm.TheVariants as form
use Rattle.volume_labels.specs.declared.records.RecordFault.{RecordFault}
use Rattle.volume_labels.specs.declared.records.Piece.{Piece}
use Rattle.volume_labels.specs.Records.{number_at, next_record}
use Rattle.volume_labels.specs.declared.layouts.Layout.{Layout}
use Rattle.record_tracks.specs.Records.{Areas, goes_on}
use Rattle.record_tracks.specs.declared.blocks.Cut.{Cut}
use Rattle.record_tracks.specs.declared.blocks.Cut.TheVariants.{Length, Described, WithLengths}
use Rattle.record_tracks.specs.declared.block_faults.BlockFault.{BlockFault}
use Rattle.record_tracks.specs.declared.block_faults.BlockFault.TheVariants as fault
use Rattle.record_tracks.specs.declared.block_faults.DescribedFault.{DescribedFault}
use Rattle.record_tracks.specs.declared.block_faults.DescribedFault.TheVariants.{NoLength, NoMark, PastEnd, NoData, OtherKey, TooLong, NoRoom, BadRecords}
use Rattle.record_tracks.specs.Blocks.{cut_by, size_of, first_areas, rests_of}

-- blocks and the file have whole records, where these have one length
abbrev pub fixed_fault : (size block bytes : ℕ) → Option BlockFault
fixed_fault size block bytes =
    if size == 0 then None
    else (if not (block % size == 0) then Some fault.Lengths
    else (if not (bytes % size == 0) then Some fault.ShortRecord
    else None))

-- a record, and then those behind it; the end of the block; or what is no record
abbrev pub and_records : Result (Option Piece) RecordFault → (ℕ → Bool) → Bool
and_records (Ok (Some p)) more = more p.end
and_records (Ok None) more = true
and_records (Err fault) more = false

-- The reader finds records from an offset of a block on, up to its end. Each passes bytes, so the number of bytes bounds their number.
unfoldable pub has_records_from : (most : ℕ) → RecordForm → (block : List ℕ) → (at : ℕ) → Bool
has_records_from zero form block at = true
has_records_from (suc most) form block at = and_records (next_record form block at) (has_records_from most form block)

abbrev pub has_records : RecordForm → (block : List ℕ) → Bool
has_records form block = has_records_from (length block) form block 0

-- Why the first block is none that begins with its descriptor word: that takes four bytes itself.
abbrev pub described_fault : Layout → (bytes : List ℕ) → Option DescribedFault
described_fault l bytes =
    if nat_lt (length bytes) 4 || nat_lt (number_at bytes 0) 4 then Some NoLength
    else (if nat_lt (length bytes) (number_at bytes 0) then Some PastEnd
    else (if nat_lt l.longest (number_at bytes 0) then Some TooLong
    else (if not (has_records l.form (take (number_at bytes 0) bytes)) then Some BadRecords
    else None)))

-- why a block is none by its key and its data
abbrev pub areas_fault : DriveModel → Layout → (key_length : ℕ) → Areas → Option DescribedFault
areas_fault model l key_length a =
    if length a.data_area == 0 then Some NoData
    else (if not (length a.key_area == key_length) then Some OtherKey
    else (if nat_lt l.longest (length a.data_area) then Some TooLong
    else (if not (goes_on model a) then Some NoRoom
    else (if not (has_records l.form a.data_area) then Some BadRecords
    else None))))

-- Why the first block is none that stands behind its lengths: these stand behind a byte 1, and it ends within the bytes.
abbrev pub lengths_fault : DriveModel → Layout → (key_length : ℕ) → (bytes : List ℕ) → Option DescribedFault
lengths_fault model l key_length bytes =
    if not (slice_index bytes 0 == 1) then Some NoMark
    else (if nat_lt (length bytes) (size_of WithLengths bytes) then Some PastEnd
    else areas_fault model l key_length (first_areas WithLengths bytes))

-- Why the first block is none that says its own lengths; one of one length says none.
abbrev pub fault_of_first : DriveModel → Layout → (key_length : ℕ) → Cut → (bytes : List ℕ) → Option DescribedFault
fault_of_first model l key_length (Length size) bytes = None
fault_of_first model l key_length Described bytes = described_fault l bytes
fault_of_first model l key_length WithLengths bytes = lengths_fault model l key_length bytes

-- why block k is none, told with its number from 1 on; or what is said of the next one
abbrev pub or_next : (k : ℕ) → Option DescribedFault → (ℕ → Option BlockFault) → Option BlockFault
or_next k (Some it) next = Some (fault.Described (k + 1) it)
or_next k None next = next (k + 1)

-- The first of the blocks from block k on that is none. For each there are the bytes from it on.
unfoldable pub first_fault : (why : List ℕ → Option DescribedFault) → (rests : List (List ℕ)) → (k : ℕ) → Option BlockFault
first_fault why [] k = None
first_fault why (rest ∷ others) k = or_next k (why rest) (first_fault why others)

-- blocks of one length, or of undefined length up to that, say no lengths
abbrev pub length_fault : RecordForm → (longest bytes : ℕ) → Option BlockFault
length_fault (form.Fixed size) longest bytes = fixed_fault size longest bytes
length_fault form.Undefined longest bytes = None
length_fault form.Variable longest bytes = None
length_fault form.Spanned longest bytes = None

-- why the bytes that are cut so are none
abbrev pub cut_fault : DriveModel → Layout → (key_length : ℕ) → Cut → (bytes : List ℕ) → Option BlockFault
cut_fault model l key_length (Length size) bytes = length_fault l.form l.longest (length bytes)
cut_fault model l key_length Described bytes = first_fault (fault_of_first model l key_length Described) (rests_of Described bytes) 0
cut_fault model l key_length WithLengths bytes = first_fault (fault_of_first model l key_length WithLengths) (rests_of WithLengths bytes) 0

-- a data set with keys, and a file that has none
abbrev pub lacks_keys : (key_length : ℕ) → Cut → Bool
lacks_keys key_length (Length size) = not (key_length == 0)
lacks_keys key_length Described = not (key_length == 0)
lacks_keys key_length WithLengths = false

-- a block has a length, and goes on a track
abbrev pub block_fault_of : DriveModel → Layout → (key_length : ℕ) → Cut → (bytes : List ℕ) → Option BlockFault
block_fault_of model l key_length cut bytes =
    if lacks_keys key_length cut then Some fault.Keys
    else (if l.longest == 0 then Some fault.NoBlockLength
    else (if nat_lt (capacity_of model) l.longest then Some fault.LongBlock
    else cut_fault model l key_length cut bytes))

-- a file of a data set of this layout is cut as its records are told apart, or by the lengths before its blocks
abbrev pub IsCutFor : Layout → Cut → Type 0
IsCutFor l WithLengths = Unit {0}
IsCutFor l (Length size) = Length size ≡ cut_by l.form l.longest
IsCutFor l Described = Described ≡ cut_by l.form l.longest
