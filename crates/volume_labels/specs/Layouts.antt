-- How records lie in the blocks of a data set, by what somebody gives of them (Data Management Services, 'Record Formats').
use Rattle.std.specs.Prelude.{ℕ, ◌+◌, ◌/◌, ◌%◌, ◌==◌, Bool, true, false, ◌&&◌, not, nat_lt, if◌then◌else◌, bit_and, Option, Some, None, Result, Ok, Err}
use Rattle.volume_labels.specs.declared.records.RecordForm.{RecordForm}
use Rattle.volume_labels.specs.declared.records.RecordForm.TheVariants.{Fixed, Variable, Spanned, Undefined}
use Rattle.volume_labels.specs.declared.layouts.RecordAttributes.{RecordAttributes}
use Rattle.volume_labels.specs.declared.layouts.Layout.{Layout}
use Rattle.volume_labels.specs.declared.layouts.AttributeFault.{AttributeFault}
use Rattle.volume_labels.specs.declared.layouts.AttributeFault.TheVariants.{NoFormat, UndefinedLength, NoRecordLength, Lengths}
use Rattle.volume_labels.specs.declared.layouts.AttributeFault.TheVariants.{OtherFormat, OtherRecordLength, OtherBlockLength}
use Rattle.volume_labels.specs.Records.{form_of}

-- the bits of a format that say how records lie in blocks: fixed, variable or undefined; blocked; standard or spanned
abbrev pub layout_bits : ℕ → ℕ
layout_bits format = bit_and format 0xD8

-- a block has several records
abbrev pub is_blocked : ℕ → Bool
is_blocked format = not (bit_and format 0x10 == 0)

-- two lengths are there, and differ
abbrev pub contradicts : (said given : ℕ) → Bool
contradicts said given = not (said == 0) && (not (given == 0) && not (said == given))

-- the one that is given, or the one that is said where none is
abbrev pub either : (said given : ℕ) → ℕ
either said given = if given == 0 then said else given

abbrev pub layout : RecordForm → (longest : ℕ) → Layout
layout form longest = record { form = form; longest = longest }

-- A block of fixed records that are blocked has several of one length; else it is one record, and its length the record's.
abbrev pub fixed_layout : (blocked : Bool) → (size block : ℕ) → Result Layout AttributeFault
fixed_layout true size block =
    if size == 0 then Err NoRecordLength
    else (if not (block % size == 0) then Err Lengths
    else Ok (layout (Fixed size) block))
fixed_layout false size block =
    if contradicts size block then Err Lengths
    else Ok (layout (Fixed (either block size)) (either block size))

-- a block of variable records has a descriptor word of 4 bytes before them
abbrev pub variable_layout : (size block : ℕ) → Result Layout AttributeFault
variable_layout size block =
    if not (size == 0) && (not (block == 0) && nat_lt block (size + 4)) then Err Lengths
    else Ok (layout Variable block)

-- a record that spans blocks may be longer than they are; one of undefined length is its block
abbrev pub layout_in : Option RecordForm → (format size block : ℕ) → Result Layout AttributeFault
layout_in None format size block = Err NoFormat
layout_in (Some (Fixed _)) format size block = fixed_layout (is_blocked format) size block
layout_in (Some Variable) format size block = variable_layout size block
layout_in (Some Spanned) format size block = Ok (layout Spanned block)
layout_in (Some Undefined) format size block = Ok (layout Undefined block)

-- of this format, with these lengths
abbrev pub layout_of : (format size block : ℕ) → Result Layout AttributeFault
layout_of format size block = layout_in (form_of format size) format size block

-- What the label has not is as it is given; and what is given contradicts neither itself nor the label.
abbrev pub layout_given : (label given : RecordAttributes) → Result Layout AttributeFault
layout_given label given =
    if (given.format / 64 == 3) && not (given.record_length == 0) then Err UndefinedLength
    else (if not (label.format / 64 == 0) && not (layout_bits label.format == layout_bits given.format) then Err OtherFormat
    else (if contradicts label.record_length given.record_length then Err OtherRecordLength
    else (if contradicts label.block_length given.block_length then Err OtherBlockLength
    else layout_of given.format (either label.record_length given.record_length) (either label.block_length given.block_length))))

-- a block is longer than those of its data set are; 0 is any length
abbrev pub is_longer : (longest length : ℕ) → Bool
is_longer longest length = not (longest == 0) && nat_lt longest length
