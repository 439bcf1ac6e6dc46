-- What is read of a library that was put on tracks, by the definitions of the reader.
use Rattle.std.specs.Prelude.{◌≡◌, ℕ, ◌+◌, ◌*◌, ◌/◌, ◌≤◌, ◌<◌, List, length, drop, flat_map, slice_index_or, All, Some}
use Rattle.ckd_track.specs.declared.model.DriveModel.{DriveModel}
use Rattle.ckd_track.specs.declared.geometries.Geometry.{Geometry}
use Rattle.volume_labels.specs.declared.fields.Extent.{Extent}
use Rattle.volume_labels.specs.declared.fields.RelativeAddress.{RelativeAddress}
use Rattle.volume_labels.specs.Fields.{relative_address_at}
use Rattle.volume_labels.specs.Directories.{entries_of}
use Rattle.dasd_extract.specs.declared.blocks.ExtractedForm.{ExtractedForm}
use Rattle.dasd_extract.specs.declared.stops.Cause.TheVariants.{EndOfFile}
use Rattle.dasd_extract.specs.Written.{Written, stop_at}
use Rattle.dasd_extract.specs.Walk.{wanted, source_written}
use Rattle.dasd_extract.specs.Members.{directory}
use Rattle.record_tracks.specs.declared.libraries.NewMember.{NewMember}
use Rattle.record_tracks.specs.declared.libraries.NewLibrary.{NewLibrary}
use Rattle.record_tracks.specs.declared.libraries.MemberNote.{MemberNote}
use Rattle.record_tracks.specs.Entries.{entry_read}
use Rattle.record_tracks.specs.DirectoryReadBack.{these_entries}
use Rattle.record_tracks.specs.Records.{Areas}
use Rattle.record_tracks.specs.Tracks.{Takes}
use Rattle.record_tracks.specs.ReadBack.{IsLoaded, IsWrittenAs, data_of, ended_by_file}
use Rattle.record_tracks.specs.Library.{directory_areas, library_areas, blocks_of_member, first_record}
use Rattle.record_tracks.specs.Addresses.{address_of}
use Rattle.record_tracks.specs.MemberEntries.{blank_areas, block_address, entry_user_data, entry_contents, directory_entries, directory_bytes}

-- The first tracks of these extents of a volume, as many as the records take, have them.
pub record HasRecords (model : DriveModel) (areas : List Areas) (g : Geometry) (extents : List Extent) (slots : List (List ℕ))
    : Type 0 where
  pub same : g.model ≡ model
  pub tracks : ℕ
  pub takes : Takes model areas tracks
  pub loaded : IsLoaded g extents slots areas tracks

-- the track of the end of file behind a directory
abbrev pub directory_end : DriveModel → (bytes : List ℕ) → List NewMember → ℕ
directory_end model bytes members = (address_of model (library_areas bytes members) (length bytes / 264)).track

-- Wherever the tracks of a library are on a volume, in one extent or in several: what the reader has of its directory is the data of its
-- blocks, ended by the end of file behind them, where they take 512 tracks at most.
abbrev pub IsDirectoryRead : DriveModel → (bytes : List ℕ) → List NewMember → Type 0
IsDirectoryRead model bytes members =
    (g : Geometry) (extents : List Extent) (slots : List (List ℕ)) → HasRecords model (library_areas bytes members) g extents slots
    → directory_end model bytes members < 512
    → source_written (directory extents) g slots ≡ ended_by_file (data_of (directory_areas bytes)) (directory_end model bytes members)

-- And from the address of block k of a member on it has, in any form, the text of that block and of those behind it and nothing else, ended
-- by the end of file behind the member. Where k is the number of the blocks, that is the end of file alone.
abbrev pub AreMembersRead : DriveModel → (bytes : List ℕ) → List NewMember → Type 0
AreMembersRead model bytes members =
    (form : ExtractedForm) (text : Areas → List ℕ) (member k : ℕ) → member < length members → k ≤ length (blocks_of_member members member)
    → (g : Geometry) (extents : List Extent) (slots : List (List ℕ)) → HasRecords model (library_areas bytes members) g extents slots
    → let blocks = blocks_of_member members member in
    let address = λ (i : ℕ). address_of model (library_areas bytes members) (first_record (length bytes / 264) members member + i) in
    (most : ℕ) → (address (length blocks)).track < (address k).track + most → All (IsWrittenAs form text) (drop k blocks)
    → source_written (wanted form extents (address k) most) g slots
    ≡ ended_by_file (flat_map text (drop k blocks)) (address (length blocks)).track

-- all records of a library, with its own directory
abbrev pub own_areas : DriveModel → NewLibrary → List Areas
own_areas model l = library_areas (directory_bytes model l) l.members.now

-- From this address on a reader has, in any form, the text of the blocks of a member from block k on and nothing else, ended by the end of
-- file behind the member, wherever the tracks of the library are on a volume, in one extent or in several.
abbrev pub IsReadFrom : DriveModel → NewLibrary → (address : RelativeAddress) → (member k : ℕ) → Type 0
IsReadFrom model l address member k =
    (form : ExtractedForm) (text : Areas → List ℕ) (g : Geometry) (extents : List Extent) (slots : List (List ℕ)) (most : ℕ)
    → HasRecords model (own_areas model l) g extents slots
    → let blocks = blocks_of_member l.members.now member in
    let end = (block_address model l member (length blocks)).track in
    end < address.track + most → All (IsWrittenAs form text) (drop k blocks)
    → source_written (wanted form extents address most) g slots ≡ ended_by_file (flat_map text (drop k blocks)) end

-- the track of the end of file behind its directory
abbrev pub own_directory_end : DriveModel → NewLibrary → ℕ
own_directory_end model l = (address_of model (blank_areas l) l.directory_blocks).track

-- what was read of its directory: these entries and no others, in their order, and nothing wrong, ended by the end of file behind it
pub record HasEntries (model : DriveModel) (l : NewLibrary) (w : Written) : Type 0 where
  pub entries : entries_of w.bytes ≡ these_entries (directory_entries model l)
  pub stop : w.stop ≡ Some (stop_at (own_directory_end model l) EndOfFile)

-- What a reader has of a library. Of its directory it has the entries, where they take 512 tracks at most; from the address of an entry on
-- there is its member; and each address in the user data of an entry is that of its block.
pub record IsLibraryRead (model : DriveModel) (l : NewLibrary) : Type 0 where
  pub directory : (g : Geometry) (extents : List Extent) (slots : List (List ℕ)) → HasRecords model (own_areas model l) g extents slots
      → own_directory_end model l < 512 → HasEntries model l (source_written (directory extents) g slots)
  pub members : All (λ e. IsReadFrom model l (entry_read (entry_contents model l e)).address e.member 0) l.entries.now
  pub notes : All (λ e. (j : ℕ) (d : MemberNote) → j < length e.notes.now
      → IsReadFrom model l (relative_address_at (entry_user_data model l e) (4 * j)) e.member (slice_index_or e.notes.now j d).block)
      l.entries.now
