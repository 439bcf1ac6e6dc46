-- The members of a partitioned data set, in the order of its directory.
use Rattle.std.specs.Prelude.{ℕ, zero, suc, ◌-◌, nat_lt, if◌then◌else◌, List, [], ◌∷◌, ◌++◌, length, slice_range, Some, None}
use Rattle.ckd_track.specs.declared.geometries.Geometry.{Geometry}
use Rattle.volume_labels.specs.declared.fields.Extent.{Extent}
use Rattle.volume_labels.specs.declared.directories.DirectoryEntry.{DirectoryEntry}
use Rattle.volume_labels.specs.declared.directories.DirectoryStep.{DirectoryStep}
use Rattle.volume_labels.specs.declared.directories.DirectoryStep.TheVariants.{Entry, Skip, End, Fault}
use Rattle.volume_labels.specs.Directories.{step_at}
use Rattle.volume_labels.specs.Names.{safe_name_of}
use Rattle.dasd_extract.specs.declared.blocks.ExtractedForm.TheVariants.{Raw}
use Rattle.dasd_extract.specs.Members.{directory}
use Rattle.dasd_extract.specs.Walk.{wanted, source_written}
use Rattle.dasd_extract.specs.Written.{Written}
use Rattle.library_contents.specs.Report.{Line, plain, wrong}
use Rattle.library_contents.specs.Lines.{Shown, member_text, heading_lines, finding_text, directory_text, end_lines}

-- the user data of an entry, which ends where the next one begins
abbrev pub user_data : List ℕ → DirectoryEntry → (next : ℕ) → List ℕ
user_data bytes e next = if nat_lt (length bytes) next then [] else slice_range bytes (next - e.user_bytes) next

-- a member with these blocks: its line, and behind it why they end, if that is no end of file
abbrev pub measured_lines : Shown → DirectoryEntry → (user : List ℕ) → Written → List Line
measured_lines s e user w =
    plain (member_text s (record { entry = e; name = safe_name_of e.name; user = user; bytes = length w.bytes }))
    ∷ end_lines s (Some (safe_name_of e.name)) w.stop

-- its blocks are those that an extraction writes: from where the entry says, up to an end of file
abbrev pub member_lines : Shown → List Extent → DirectoryEntry → (user : List ℕ) → Geometry → (slots : List (List ℕ)) → List Line
member_lines s extents e user g slots = measured_lines s e user (source_written (wanted Raw extents e.address 65535) g slots)

-- what stands at an offset of the directory, and what is behind it
abbrev pub step_lines : Shown → (member : DirectoryEntry → (next : ℕ) → List Line) → DirectoryStep → (ℕ → List Line) → List Line
step_lines s member (Entry e next) behind = member e next ++ behind next
step_lines s member (Skip next) behind = behind next
step_lines s member End behind = []
step_lines s member (Fault f) behind = wrong (finding_text s None (directory_text f)) ∷ []

-- the lines from an offset on; each step passes bytes, so the number of bytes bounds the steps
unfoldable pub lines_from : Shown → (member : DirectoryEntry → (next : ℕ) → List Line) → (most : ℕ) → List ℕ → (at : ℕ) → List Line
lines_from s member zero bytes at = []
lines_from s member (suc most) bytes at = step_lines s member (step_at bytes at) (lines_from s member most bytes)

-- the entries in the blocks of a directory, and what is wrong behind them
abbrev pub entries_lines : Shown → List Extent → (bytes : List ℕ) → Geometry → (slots : List (List ℕ)) → List Line
entries_lines s extents bytes g slots =
    lines_from s (λ e next. member_lines s extents e (user_data bytes e next) g slots) (length bytes) bytes 0

-- the directory of a library with these blocks
abbrev pub directory_lines : Shown → List Extent → Written → Geometry → (slots : List (List ℕ)) → List Line
directory_lines s extents w g slots = entries_lines s extents w.bytes g slots ++ end_lines s None w.stop

-- What is listed of a library: its members, each with what is wrong with it, and what is wrong with its directory.
abbrev pub library_lines : Shown → List Extent → Geometry → (slots : List (List ℕ)) → List Line
library_lines s extents g slots = heading_lines s ++ directory_lines s extents (source_written (directory extents) g slots) g slots
