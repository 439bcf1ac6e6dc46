-- The words in which labels, control blocks and findings are printed.
use Rattle.std.specs.Prelude.{ℕ, ◌+◌, ◌-◌, ◌==◌, Bool, false, ◌&&◌, ◌||◌, not, if◌then◌else◌, List, [], ◌∷◌, ◌++◌, length, replicate, bit_and, codes}
use Rattle.std.specs.Prelude.{encode_utf8}
use Rattle.std.specs.List.{concat, flat_map}
use Rattle.std.specs.Fmt.{decimal}
use Rattle.counted_io.specs.Quantities.{quantity_text}
use Rattle.volume_labels.specs.declared.fields.TrackAddress.{TrackAddress}
use Rattle.volume_labels.specs.declared.fields.RecordAddress.{RecordAddress}
use Rattle.volume_labels.specs.declared.fields.Extent.{Extent}
use Rattle.volume_labels.specs.declared.fields.FreeTracks.{FreeTracks}
use Rattle.volume_labels.specs.declared.fields.Date.{Date}
use Rattle.volume_labels.specs.Ebcdic.{shown}
use Rattle.volume_labels.specs.Lines.{without_blanks}
use Rattle.dasd_volumes.specs.Lines.{address_text, fault_text, hexadecimal}
use Rattle.volume_contents.specs.declared.chains.ChainFault.{ChainFault}
use Rattle.volume_contents.specs.declared.chains.ChainFault.TheVariants.{Missing, OtherFormat, Endless}
use Rattle.volume_contents.specs.declared.findings.Problem.{Problem}
use Rattle.volume_contents.specs.declared.findings.Problem.TheVariants.{NoLabel, NoContents, BadContents, Unreadable, NoBlock, UnknownFormat, OtherKey, Chain}
use Rattle.volume_contents.specs.declared.findings.Problem.TheVariants.{OtherNumber, BadExtent, ExtentOutside, Overlap, FreeOutside, FreeInUse}

-- Places.

-- a track: cylinder and head
abbrev pub track_text : TrackAddress → List ℕ
track_text t = address_text t.cylinder t.head

-- a record; or the track alone, where its number is 0
abbrev pub place_text : RecordAddress → List ℕ
place_text a = if a.number == 0 then track_text a.track else concat (track_text a.track ∷ codes " R" ∷ decimal a.number ∷ [])

-- the first and the last track of an extent
abbrev pub extent_text : Extent → List ℕ
extent_text e = concat (track_text e.first ∷ codes " .. " ∷ track_text e.last ∷ [])

abbrev pub piece_text : FreeTracks → List ℕ
piece_text f = concat (
    codes "from track " ∷ decimal f.first ∷ codes " on, " ∷ quantity_text f.cylinders (codes "cylinder") (codes "cylinders")
    ∷ codes " and " ∷ quantity_text f.tracks (codes "track") (codes "tracks") ∷ [])

-- Text in EBCDIC, as it is shown; where it is quoted, a quotation mark and a backslash stand behind a backslash, as JSON has them.

abbrev pub is_escaped : ℕ → Bool
is_escaped character = (character == 34) || (character == 92)

abbrev pub in_text : (quoted : Bool) → (character : ℕ) → List ℕ
in_text quoted character = if quoted && is_escaped character then 92 ∷ encode_utf8 character else encode_utf8 character

abbrev pub text_of : (quoted : Bool) → List ℕ → List ℕ
text_of quoted bytes = flat_map (λ b. in_text quoted (shown b)) bytes

-- A volume's owner: the name without the blanks behind it, or a hyphen.
abbrev pub owner_text : List ℕ → List ℕ
owner_text owner = if length (without_blanks owner) == 0 then codes "-" else text_of false (without_blanks owner)

-- Dates: the year and the day of it in three digits, or a hyphen where there is none.

abbrev pub is_date : Date → Bool
is_date d = not (d.year == 0) || not (d.day == 0)

abbrev pub three_digits : ℕ → List ℕ
three_digits n = replicate (3 - length (decimal n)) 48 ++ decimal n

abbrev pub date_text : Date → List ℕ
date_text d = concat (decimal (1900 + d.year) ∷ codes "-" ∷ three_digits d.day ∷ [])

-- eight characters wide, where there is none, if it stands in a column
abbrev pub no_date : (wide : Bool) → List ℕ
no_date wide = if wide then codes "-       " else codes "-"

abbrev pub day_text : (wide : Bool) → Date → List ℕ
day_text wide d = if is_date d then date_text d else no_date wide

-- The organisation of a data set in two letters; its bit 100 says that the data set can't be moved.

abbrev pub organisation_of : ℕ → List ℕ
organisation_of bits =
    if bits == 0x8000 then codes "IS"
    else (if bits == 0x4000 then codes "PS"
    else (if bits == 0x2000 then codes "DA"
    else (if bits == 0x0200 then codes "PO"
    else (if bits == 0x0008 then codes "VS"
    else codes "??"))))

-- one that can be has a blank there, if it stands in a column
abbrev pub unmovable : (wide : Bool) → ℕ → List ℕ
unmovable wide bits = if bit_and bits 0x0100 == 0 then (if wide then codes " " else []) else codes "U"

abbrev pub organisation_text : (wide : Bool) → ℕ → List ℕ
organisation_text wide bits = organisation_of (bit_and bits 0xFEFF) ++ unmovable wide bits

-- A record format: a letter of its form, and one for each flag.

abbrev pub form_of : ℕ → List ℕ
form_of bits =
    if bits == 0x80 then codes "F"
    else (if bits == 0x40 then codes "V"
    else (if bits == 0xC0 then codes "U"
    else codes "?"))

abbrev pub where_set : (format flag : ℕ) → List ℕ → List ℕ
where_set format flag letter = if bit_and format flag == 0 then [] else letter

-- blocked, spanned or standard, with track overflow, with control characters of ASA or of the machine
abbrev pub format_text : ℕ → List ℕ
format_text format = concat (
    form_of (bit_and format 0xC0) ∷ where_set format 0x10 (codes "B") ∷ where_set format 0x08 (codes "S") ∷ where_set format 0x20 (codes "T")
    ∷ where_set format 0x04 (codes "A") ∷ where_set format 0x02 (codes "M") ∷ [])

-- What is wrong.

abbrev pub chain_text : ChainFault → List ℕ
chain_text (Missing at) = concat (codes "next control block " ∷ place_text at ∷ codes " is none" ∷ [])
chain_text (OtherFormat at) = concat (codes "next control block " ∷ place_text at ∷ codes " has another format" ∷ [])
chain_text (Endless at) = concat (codes "chain of control blocks does not end, at " ∷ place_text at ∷ [])

abbrev pub problem_text : Problem → List ℕ
problem_text NoLabel = codes "no volume label"
problem_text (NoContents at) = concat (codes "no volume table of contents at " ∷ place_text at ∷ [])
problem_text (BadContents e) = concat (codes "extent " ∷ extent_text e ∷ codes " of the volume table of contents" ∷ [])
problem_text (Unreadable fault) = fault_text fault
problem_text NoBlock = codes "record has not the lengths of a control block"
problem_text (UnknownFormat format) = concat (codes "control block of unknown format " ∷ hexadecimal 2 format ∷ [])
problem_text OtherKey = codes "control block has a key of another format"
problem_text (Chain fault) = chain_text fault
problem_text (OtherNumber found said) = concat (quantity_text found (codes "extent") (codes "extents") ∷ codes ", and not " ∷ decimal said ∷ [])
problem_text (BadExtent e) = concat (codes "extent " ∷ extent_text e ∷ codes " is no run of tracks" ∷ [])
problem_text (ExtentOutside e) = concat (codes "extent " ∷ extent_text e ∷ codes " is not all on the volume" ∷ [])
problem_text (Overlap e track) = concat (codes "extent " ∷ extent_text e ∷ codes " has track " ∷ decimal track ∷ codes " of an earlier one" ∷ [])
problem_text (FreeOutside f) = concat (codes "free tracks " ∷ piece_text f ∷ codes " are not all on the volume" ∷ [])
problem_text (FreeInUse f track) =
    concat (codes "free tracks " ∷ piece_text f ∷ codes " have track " ∷ decimal track ∷ codes ", which is not free" ∷ [])

-- the kind of a problem, without what it is about
abbrev pub kind_text : Problem → List ℕ
kind_text NoLabel = codes "no volume label"
kind_text (NoContents _) = codes "no volume table of contents"
kind_text (BadContents _) = codes "bad extent of the volume table of contents"
kind_text (Unreadable _) = codes "unreadable"
kind_text NoBlock = codes "no control block"
kind_text (UnknownFormat _) = codes "unknown format"
kind_text OtherKey = codes "other key"
kind_text (Chain (Missing _)) = codes "next block missing"
kind_text (Chain (OtherFormat _)) = codes "next block of another format"
kind_text (Chain (Endless _)) = codes "endless chain"
kind_text (OtherNumber _ _) = codes "other number of extents"
kind_text (BadExtent _) = codes "bad extent"
kind_text (ExtentOutside _) = codes "extent outside"
kind_text (Overlap _ _) = codes "overlap"
kind_text (FreeOutside _) = codes "free tracks outside"
kind_text (FreeInUse _ _) = codes "free tracks in use"
