-- What is wrong with the data of data sets and members.
use Rattle.std.specs.Prelude.{◌≡◌, ℕ, ◌==◌, Bool, true, false, ◌&&◌, ◌||◌, not, nat_le, if◌then◌else◌, List, [], ◌∷◌, ◌++◌, bit_and, bytes_eq, Option, Some, None}
use Rattle.std.specs.List.{flat_map, list_any}
use Rattle.ckd_track.specs.declared.geometries.Geometry.{Geometry}
use Rattle.volume_labels.specs.declared.fields.Extent.{Extent}
use Rattle.volume_labels.specs.declared.fields.RelativeAddress.{RelativeAddress}
use Rattle.volume_labels.specs.declared.blocks.DataSetBlock.{DataSetBlock}
use Rattle.volume_labels.specs.declared.directories.DirectoryEntry.{DirectoryEntry}
use Rattle.volume_labels.specs.declared.directories.DirectoryFault.{DirectoryFault}
use Rattle.volume_labels.specs.Directories.{entries_of}
use Rattle.volume_labels.specs.Labels.{data_set_block_of}
use Rattle.volume_labels.specs.Lines.{without_blanks}
use Rattle.dasd_volumes.specs.Reading.{KnownVolume}
use Rattle.volume_contents.specs.declared.blocks.Block.{Block}
use Rattle.volume_contents.specs.Sets.{is_data_set, extents_behind}
use Rattle.volume_contents.specs.Tracks.{tracks_owned, tracks_used}
use Rattle.dasd_extract.specs.declared.blocks.ExtractedForm.TheVariants.{Raw}
use Rattle.dasd_extract.specs.declared.stops.Cause.{Cause}
use Rattle.dasd_extract.specs.declared.stops.Cause.TheVariants.{PastExtents, Outside}
use Rattle.dasd_extract.specs.declared.stops.Stop.{Stop}
use Rattle.dasd_extract.specs.Members.{directory}
use Rattle.dasd_extract.specs.Walk.{wanted, source_written}
use Rattle.dasd_extract.specs.Written.{Written}
use Rattle.library_contents.specs.Blocks.{is_end_of_file}
use Rattle.library_contents.specs.Members.{same_address}
use Rattle.volume_findings.specs.declared.findings.DataFinding.{DataFinding}
use Rattle.volume_findings.specs.declared.findings.DataFault.{DataFault}
use Rattle.volume_findings.specs.declared.findings.DataFault.TheVariants.{Directory, Ends}

abbrev pub finding : (data_set : List ℕ) → (member : Option (List ℕ)) → DataFault → DataFinding
finding data_set member fault = record { data_set = data_set; member = member; fault = fault }

-- Where blocks end.

-- the extents end
abbrev pub is_past_extents : Cause → Bool
is_past_extents PastExtents = true
is_past_extents Outside = true
is_past_extents other = false

-- blocks may end with an end of file; and with their extents, if they need none
abbrev pub ends_well : (needs_end : Bool) → Cause → Bool
ends_well needs_end cause = is_end_of_file cause || (not needs_end && is_past_extents cause)

-- another end is a finding
abbrev pub end_findings : (needs_end : Bool) → (data_set : List ℕ) → (member : Option (List ℕ)) → Option Stop → List DataFinding
end_findings needs_end data_set member None = []
end_findings needs_end data_set member (Some stop) =
    if ends_well needs_end stop.cause then [] else finding data_set member (Ends stop) ∷ []

-- where the blocks from an address on end, as `extract` walks over them
abbrev pub end_from : List Extent → RelativeAddress → Geometry → (slots : List (List ℕ)) → Option Stop
end_from extents start g slots = (source_written (wanted Raw extents start 65535) g slots).stop

-- Members.

-- a member has an entry of its own
abbrev pub is_own_entry : RelativeAddress → DirectoryEntry → Bool
is_own_entry a e = not e.is_alias && same_address a e.address

-- an entry is another name of such a member
abbrev pub is_other_name : List DirectoryEntry → DirectoryEntry → Bool
is_other_name entries e = e.is_alias && list_any (is_own_entry e.address) entries

-- a member's blocks end with an end of file
abbrev pub member_findings : (data_set : List ℕ) → List Extent → List DirectoryEntry → DirectoryEntry → Geometry → (slots : List (List ℕ)) → List DataFinding
member_findings data_set extents entries e g slots =
    if is_other_name entries e then [] else end_findings true data_set (Some e.name) (end_from extents e.address g slots)

abbrev pub members_findings : (data_set : List ℕ) → List Extent → List DirectoryEntry → Geometry → (slots : List (List ℕ)) → List DataFinding
members_findings data_set extents entries g slots = flat_map (λ e. member_findings data_set extents entries e g slots) entries

-- the entries of a directory can be separated, and its blocks end with an end of file
abbrev pub fault_findings : (data_set : List ℕ) → Option DirectoryFault → List DataFinding
fault_findings data_set None = []
fault_findings data_set (Some fault) = finding data_set None (Directory fault) ∷ []

abbrev pub directory_findings : (data_set : List ℕ) → Option DirectoryFault → Option Stop → List DataFinding
directory_findings data_set fault stop = fault_findings data_set fault ++ end_findings true data_set None stop

-- the members of a directory with these blocks, in its order, and then the directory
abbrev pub library_written : (data_set : List ℕ) → List Extent → Written → Geometry → (slots : List (List ℕ)) → List DataFinding
library_written data_set extents w g slots =
    members_findings data_set extents (entries_of w.bytes).entries g slots ++ directory_findings data_set (entries_of w.bytes).fault w.stop

abbrev pub library_findings : (data_set : List ℕ) → List Extent → Geometry → (slots : List (List ℕ)) → List DataFinding
library_findings data_set extents g slots = library_written data_set extents (source_written (directory extents) g slots) g slots

-- Data sets.

abbrev pub has_bit : (bits bit : ℕ) → Bool
has_bit bits bit = not (bit_and bits bit == 0)

-- a data set has members
abbrev pub is_partitioned : DataSetBlock → Bool
is_partitioned d = has_bit d.organisation 0x0200

-- where the blocks of a data set begin
abbrev pub beginning : RelativeAddress
beginning = record { track = 0; number = 0 }

-- SYSCTLG in EBCDIC: the catalog has blocks with keys on all of its tracks
abbrev pub is_catalog : DataSetBlock → Bool
is_catalog d = bytes_eq (without_blanks d.name) (0xE2 ∷ 0xE8 ∷ 0xE2 ∷ 0xC3 ∷ 0xE3 ∷ 0xD3 ∷ 0xC7 ∷ [])

-- a data set may go on on another volume, if its label does not mark this one as its last, and all of its tracks are used
abbrev pub may_go_on : Geometry → DataSetBlock → List Extent → Bool
may_go_on g d extents = not (has_bit d.indicators 0x80) && nat_le (tracks_owned g extents) (tracks_used d.last)

-- A sequential data set with a record format, of which a track is used, ends with an end of file, unless it is the catalog or may go on on
-- another volume.
abbrev pub needs_end : Geometry → DataSetBlock → List Extent → Bool
needs_end g d extents =
    has_bit d.organisation 0x4000 && not (d.format == 0) && not (tracks_used d.last == 0) && not (is_catalog d)
    && not (may_go_on g d extents)

abbrev pub set_findings : DataSetBlock → List Extent → Geometry → (slots : List (List ℕ)) → List DataFinding
set_findings d extents g slots =
    if is_partitioned d then library_findings d.name extents g slots
    else end_findings (needs_end g d extents) d.name None (end_from extents beginning g slots)

-- a control block among those of its volume: its data set, if it is one's
abbrev pub block_findings : List Block → Block → Geometry → (slots : List (List ℕ)) → List DataFinding
block_findings blocks b g slots =
    if is_data_set b.kind then set_findings (data_set_block_of b.key b.bytes) (extents_behind blocks b) g slots else []

-- All data sets, in the order of the control blocks.
abbrev pub data_findings : List Block → Geometry → (slots : List (List ℕ)) → List DataFinding
data_findings blocks g slots = flat_map (λ b. block_findings blocks b g slots) blocks

-- What is said of a volume whose slots are known.

-- this is where blocks end
abbrev pub EndsAt : List Extent → RelativeAddress → KnownVolume → Stop → Type 0
EndsAt extents start v stop = (slots : List (List ℕ)) → v.slots ≡ Some slots → Some stop ≡ end_from extents start v.geometry slots

-- these findings were added
abbrev pub AddsOf : (Geometry → List (List ℕ) → List DataFinding) → KnownVolume → (before now : List DataFinding) → Type 0
AddsOf of v before now = (slots : List (List ℕ)) → v.slots ≡ Some slots → now ≡ before ++ of v.geometry slots
