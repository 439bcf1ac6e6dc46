-- The records of a block (Data Management Services, 'Record Formats'): fixed length, variable length with a block descriptor word
-- before the first and a record descriptor word before each, or undefined length.
use Rattle.std.specs.Prelude.{ℕ, ◌+◌, ◌-◌, ◌*◌, ◌/◌, ◌%◌, ◌≤◌, ◌<◌, ◌==◌, Bool, true, false, ◌&&◌, ◌||◌, not, nat_lt, if◌then◌else◌, List, length, slice_index}
use Rattle.std.specs.Prelude.{Option, Some, None, Result, Ok, Err}
use Rattle.volume_labels.specs.declared.records.RecordForm.{RecordForm}
use Rattle.volume_labels.specs.declared.records.RecordForm.TheVariants.{Fixed, Variable, Spanned, Undefined}
use Rattle.volume_labels.specs.declared.records.Segment.{Segment}
use Rattle.volume_labels.specs.declared.records.Segment.TheVariants.{Whole, First, Last, Middle}
use Rattle.volume_labels.specs.declared.records.Piece.{Piece}
use Rattle.volume_labels.specs.declared.records.RecordFault.{RecordFault}
use Rattle.volume_labels.specs.declared.records.RecordFault.TheVariants.{ShortRecord, NoDescriptor, BlockLength, RecordLength, SegmentCode}

-- the form that a record format says: its two high bits, and the fifth for variable ones
abbrev pub form_of : (format record_length : ℕ) → Option RecordForm
form_of format record_length =
    if format / 64 == 2 then Some (Fixed record_length)
    else (if (format / 64 == 1) && (format / 8 % 2 == 1) then Some Spanned
    else (if format / 64 == 1 then Some Variable
    else (if format / 64 == 3 then Some Undefined
    else None)))

-- two bytes, the high one first
abbrev pub number_at : List ℕ → (at : ℕ) → ℕ
number_at block at = slice_index block at * 256 + slice_index block (at + 1)

-- the segment of a code
abbrev pub segment_of : ℕ → Option Segment
segment_of code =
    if code == 0 then Some Whole
    else (if code == 1 then Some First
    else (if code == 2 then Some Last
    else (if code == 3 then Some Middle
    else None)))

-- a segment that a form may have: where records do not span blocks, each is whole
abbrev pub segment_in : (spans : Bool) → Option Segment → Option Segment
segment_in spans None = None
segment_in spans (Some Whole) = Some Whole
segment_in spans (Some segment) = if spans then Some segment else None

abbrev pub of_segment : (start end : ℕ) → Option Segment → Result (Option Piece) RecordFault
of_segment start end None = Err SegmentCode
of_segment start end (Some segment) = Ok (Some (record { start = start; end = end; segment = segment }))

-- a record of fixed length at an offset; one of length 0 takes the whole block
abbrev pub fixed_record : (record_length : ℕ) → (block : List ℕ) → (at : ℕ) → Result (Option Piece) RecordFault
fixed_record record_length block at =
    if at == length block then Ok None
    else (if record_length == 0 then of_segment at (length block) (Some Whole)
    else (if nat_lt (length block - at) record_length then Err ShortRecord
    else of_segment at (at + record_length) (Some Whole)))

-- the record whose descriptor word stands at an offset: its length, that of the word among it, a segment code, and a zero
abbrev pub described : (spans : Bool) → (block : List ℕ) → (at : ℕ) → Result (Option Piece) RecordFault
described spans block at =
    if length block - at == 0 then Ok None
    else (if nat_lt (length block - at) 4 then Err NoDescriptor
    else (if nat_lt (number_at block at) 4 || nat_lt (length block - at) (number_at block at) then Err RecordLength
    else of_segment (at + 4) (at + number_at block at) (segment_in spans (segment_of (slice_index block (at + 2))))))

-- a block of variable records begins with a descriptor word that has the block's length
abbrev pub variable_record : (spans : Bool) → (block : List ℕ) → (at : ℕ) → Result (Option Piece) RecordFault
variable_record spans block at =
    if nat_lt 0 at then described spans block at
    else (if nat_lt (length block) 4 then Err NoDescriptor
    else (if not (number_at block 0 == length block) then Err BlockLength
    else described spans block 4))

-- the record that stands at an offset, which is 0 for the first; none behind the last
abbrev pub next_record : RecordForm → (block : List ℕ) → (at : ℕ) → Result (Option Piece) RecordFault
next_record (Fixed n) block at = fixed_record n block at
next_record Undefined block at = fixed_record 0 block at
next_record Variable block at = variable_record false block at
next_record Spanned block at = variable_record true block at

-- a record stands within its block, and ends behind the offset
abbrev pub IsWithin : (block : List ℕ) → (at : ℕ) → Piece → Type 0
IsWithin block at p = (at < p.end) × (p.start ≤ p.end) × (p.end ≤ length block)
