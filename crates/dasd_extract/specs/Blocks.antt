-- What is written of a block: its data, or its records as lines of text.
use Rattle.std.specs.Prelude.{ℕ, zero, suc, ◌/◌, ◌%◌, Bool, ◌&&◌, ◌||◌, ◌==◌, nat_lt, nat_le, if◌then◌else◌, List, [], ◌∷◌, ◌++◌, length, flat_map, slice_range}
use Rattle.std.specs.Prelude.{slice_index, encode_utf8, Option, Some, None, Result, Ok, Err}
use Rattle.ckd_track.specs.Track.{Record}
use Rattle.volume_labels.specs.Ebcdic.{character_of}
use Rattle.volume_labels.specs.declared.records.RecordForm.{RecordForm}
use Rattle.volume_labels.specs.declared.records.RecordFault.{RecordFault}
use Rattle.volume_labels.specs.declared.layouts.Layout.{Layout}
use Rattle.volume_labels.specs.Layouts.{is_longer}
use Rattle.volume_labels.specs.declared.records.Segment.{Segment}
use Rattle.volume_labels.specs.declared.records.Segment.TheVariants.{Whole, First, Last, Middle}
use Rattle.volume_labels.specs.declared.records.Piece.{Piece}
use Rattle.volume_labels.specs.Records.{next_record}
use Rattle.volume_labels.specs.Lines.{without_blanks}
use Rattle.dasd_extract.specs.declared.stops.Cause.TheVariants.{EndOfFile, NotDirectory, NoRecord, LongBlock}
use Rattle.dasd_extract.specs.declared.blocks.ExtractedForm.{ExtractedForm}
use Rattle.dasd_extract.specs.declared.blocks.ExtractedForm.TheVariants.{Raw, Text, Directory, Keyed}
use Rattle.dasd_extract.specs.Written.{Written, nothing, these_bytes, stopped, behind}

-- a character that controls a terminal or a file is no text: it is a replacement character, so that each record is one line
abbrev pub is_control : ℕ → Bool
is_control c = nat_lt c 32 || (nat_le 127 c && nat_lt c 160)

-- a printing character of ASCII is text as it is, in one byte
abbrev pub is_printing : ℕ → Bool
is_printing c = nat_le 32 c && nat_lt c 127

-- a byte of EBCDIC as text
abbrev pub text_character : ℕ → ℕ
text_character b = if is_control (character_of b) then 0xFFFD else character_of b

-- bytes of EBCDIC as text in UTF-8
abbrev pub text_of : List ℕ → List ℕ
text_of bytes = flat_map (λ b. encode_utf8 (text_character b)) bytes

abbrev pub line_of : List ℕ → List ℕ
line_of bytes = text_of (without_blanks bytes) ++ 10 ∷ []

-- a record is a line, without the blanks at its end; so is its last segment, behind those before it
abbrev pub segment_text : Segment → List ℕ → List ℕ
segment_text Whole bytes = line_of bytes
segment_text Last bytes = line_of bytes
segment_text First bytes = text_of bytes
segment_text Middle bytes = text_of bytes

abbrev pub piece_text : (block : List ℕ) → Piece → List ℕ
piece_text block p = segment_text p.segment (slice_range block p.start p.end)

-- a piece, and then those behind it; none; or what is no record
abbrev pub on_piece : (track number : ℕ) → (block : List ℕ) → Result (Option Piece) RecordFault → (ℕ → Written) → Written
on_piece track number block (Ok (Some p)) more = behind None (piece_text block p) (more p.end)
on_piece track number block (Ok None) more = nothing
on_piece track number block (Err fault) more = stopped track (NoRecord number fault)

-- the records from an offset of a block on; each passes bytes, so the number of bytes bounds their number
unfoldable pub lines_from : (most : ℕ) → RecordForm → (track number : ℕ) → (block : List ℕ) → (at : ℕ) → Written
lines_from zero form track number block at = nothing
lines_from (suc most) form track number block at =
    on_piece track number block (next_record form block at) (lines_from most form track number block)

abbrev pub lines_written : RecordForm → (track number : ℕ) → (block : List ℕ) → Written
lines_written form track number block = lines_from (length block) form track number block 0

-- of a block that is longer than those of its data set no record is read
abbrev pub records_written : Layout → (track number : ℕ) → (block : List ℕ) → Written
records_written l track number block =
    if is_longer l.longest (length block) then stopped track (LongBlock number) else lines_written l.form track number block

-- a block of a directory has a key of 8 bytes and 256 bytes of data
abbrev pub directory_written : (track number : ℕ) → (key block : List ℕ) → Written
directory_written track number key block =
    if (length key == 8) && (length block == 256) then these_bytes block else stopped track (NotDirectory number)

-- the lengths of a block's areas as its count area has them: that of the key in a byte, that of the data in two
abbrev pub lengths : Record → List ℕ
lengths r = length r.key_area ∷ length r.data_area / 256 ∷ length r.data_area % 256 ∷ []

-- a block with its lengths and its key: a byte 1, the lengths, the key and the data
abbrev pub keyed_bytes : Record → List ℕ
keyed_bytes r = 1 ∷ lengths r ++ (r.key_area ++ r.data_area)

abbrev pub number_of : Record → ℕ
number_of r = slice_index r.id 4

abbrev pub form_written : ExtractedForm → (track : ℕ) → Record → Written
form_written Raw track r = these_bytes r.data_area
form_written (Text l) track r = records_written l track (number_of r) r.data_area
form_written Directory track r = directory_written track (number_of r) r.key_area r.data_area
form_written Keyed track r = these_bytes (keyed_bytes r)

-- a record without data is an end of file
abbrev pub block_written : ExtractedForm → (track : ℕ) → Record → Written
block_written form track r = if length r.data_area == 0 then stopped track EndOfFile else form_written form track r
