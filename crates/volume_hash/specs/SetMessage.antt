-- What a data set and a member say, as messages of bytes, and the hashes of these. Neither the name of a data set nor a place is part of one.
use Rattle.std.specs.Prelude.{◌≡◌, ℕ, ◌==◌, Bool, true, false, ◌&&◌, not, is_none, if◌then◌else◌, List, [], ◌∷◌, ◌++◌, bit_and, codes, Option, Some, None}
use Rattle.std.specs.List.{flat_map, list_all}
use Rattle.sha2.specs.Sha256.{sha256}
use Rattle.ckd_track.specs.declared.geometries.Geometry.{Geometry}
use Rattle.volume_labels.specs.declared.fields.Extent.{Extent}
use Rattle.volume_labels.specs.declared.fields.RelativeAddress.{RelativeAddress}
use Rattle.volume_labels.specs.declared.blocks.DataSetBlock.{DataSetBlock}
use Rattle.volume_labels.specs.declared.directories.DirectoryEntry.{DirectoryEntry}
use Rattle.volume_labels.specs.Directories.{Found, entries_of}
use Rattle.dasd_volumes.specs.Reading.{KnownVolume}
use Rattle.dasd_extract.specs.declared.blocks.ExtractedForm.TheVariants.{Keyed}
use Rattle.dasd_extract.specs.declared.members.Members.{Members}
use Rattle.dasd_extract.specs.declared.stops.Cause.{Cause}
use Rattle.dasd_extract.specs.declared.stops.Cause.TheVariants.{EndOfFile, EndBehindAlternates}
use Rattle.dasd_extract.specs.declared.stops.Stop.{Stop}
use Rattle.dasd_extract.specs.Members.{directory}
use Rattle.dasd_extract.specs.Walk.{Wanted, wanted, source_written}
use Rattle.dasd_extract.specs.Written.{Written}
use Rattle.volume_hash.specs.declared.blocks.BlocksHash.{BlocksHash}

-- Blocks with their lengths and keys, from an address on over the extents, as `extract` walks over them.
abbrev pub blocks_from : List Extent → RelativeAddress → Wanted
blocks_from extents start = wanted Keyed extents start 65535

abbrev pub blocks_at : List Extent → RelativeAddress → Geometry → (slots : List (List ℕ)) → Written
blocks_at extents start g slots = source_written (blocks_from extents start) g slots

-- blocks are whole if they end with an end of file
abbrev pub is_end_of_file : Cause → Bool
is_end_of_file EndOfFile = true
is_end_of_file EndBehindAlternates = true
is_end_of_file other = false

abbrev pub is_whole : Option Stop → Bool
is_whole (Some stop) = is_end_of_file stop.cause
is_whole None = false

-- what stands behind a message of something that is not whole: a byte 0
abbrev pub ending : (whole : Bool) → List ℕ
ending whole = if whole then [] else 0 ∷ []

-- blocks: the word for them, each with its lengths and its key, and the ending
abbrev pub blocks_message : Written → List ℕ
blocks_message w = codes "blocks" ++ w.bytes ++ ending (is_whole w.stop)

abbrev pub blocks_hash : List Extent → RelativeAddress → Geometry → (slots : List (List ℕ)) → List ℕ
blocks_hash extents start g slots = sha256 (blocks_message (blocks_at extents start g slots))

abbrev pub are_whole : List Extent → RelativeAddress → Geometry → (slots : List (List ℕ)) → Bool
are_whole extents start g slots = is_whole (blocks_at extents start g slots).stop

-- where the blocks of a data set begin
abbrev pub beginning : RelativeAddress
beginning = record { track = 0; number = 0 }

-- a data set has members
abbrev pub is_partitioned : DataSetBlock → Bool
is_partitioned d = not (bit_and d.organisation 0x0200 == 0)

-- the blocks of the directory of a data set, and its entries
abbrev pub directory_in : List Extent → Geometry → (slots : List (List ℕ)) → Written
directory_in extents g slots = source_written (directory extents) g slots

abbrev pub members_in : List Extent → Geometry → (slots : List (List ℕ)) → Found
members_in extents g slots = entries_of (directory_in extents g slots).bytes

-- a directory is whole if its blocks end with an end of file, and nothing is wrong behind its entries
abbrev pub is_whole_directory : List Extent → Geometry → (slots : List (List ℕ)) → Bool
is_whole_directory extents g slots = is_none (members_in extents g slots).fault && is_whole (directory_in extents g slots).stop

-- a member: its name, eight bytes as they stand, and the hash of its blocks
abbrev pub member_message : List Extent → Geometry → (slots : List (List ℕ)) → DirectoryEntry → List ℕ
member_message extents g slots e = e.name ++ blocks_hash extents e.address g slots

abbrev pub member_is_whole : List Extent → Geometry → (slots : List (List ℕ)) → DirectoryEntry → Bool
member_is_whole extents g slots e = are_whole extents e.address g slots

-- a data set with members: the word for them, each in the order of the directory, and the ending of that
abbrev pub library_message : List Extent → Geometry → (slots : List (List ℕ)) → List ℕ
library_message extents g slots =
    codes "members" ++ flat_map (member_message extents g slots) (members_in extents g slots).entries
    ++ ending (is_whole_directory extents g slots)

abbrev pub library_hash : List Extent → Geometry → (slots : List (List ℕ)) → List ℕ
library_hash extents g slots = sha256 (library_message extents g slots)

-- it is whole if its directory is, and each member
abbrev pub library_is_whole : List Extent → Geometry → (slots : List (List ℕ)) → Bool
library_is_whole extents g slots =
    is_whole_directory extents g slots && list_all (member_is_whole extents g slots) (members_in extents g slots).entries

-- What is said of a volume whose slots are known.

-- this is the hash of blocks, and whether they are whole
pub record IsHashOfBlocks (extents : List Extent) (start : RelativeAddress) (v : KnownVolume) (h : BlocksHash) : Type 0 where
  pub digest : (slots : List (List ℕ)) → v.slots ≡ Some slots → h.digest ≡ blocks_hash extents start v.geometry slots
  pub whole : (slots : List (List ℕ)) → v.slots ≡ Some slots → h.is_whole ≡ are_whole extents start v.geometry slots

-- the directory that was read is whole
abbrev pub is_whole_of : Members → Bool
is_whole_of m = is_none m.fault && is_end_of_file m.stop.cause
