-- What the file of a member has for a library.
use Rattle.std.specs.Prelude.{ℕ, List, flat_map, Result, Ok, Err}
use Rattle.ckd_track.specs.declared.model.DriveModel.{DriveModel}
use Rattle.record_tracks.specs.Blocks.{block_areas}
use Rattle.record_tracks.specs.Records.{Areas}
use Rattle.record_tracks.specs.ReadBack.{keyed_text}
use Rattle.loaded_sets.specs.declared.contents.LoadedSet.{LoadedSet}
use Rattle.loaded_sets.specs.declared.contents.NewSetForm.{NewSetForm}
use Rattle.loaded_sets.specs.declared.fault.ContentFault.{ContentFault}
use Rattle.loaded_sets.specs.Contents.{FileBlocks, blocks_in, layout_of_set, new_label}
use Rattle.loaded_folders.specs.declared.added.AddedMember.{AddedMember}

-- records one behind another, each with its lengths and its key
abbrev pub all_keyed : List Areas → List ℕ
all_keyed areas = flat_map keyed_text areas

-- the blocks of a file so
abbrev pub keyed_blocks : FileBlocks → List ℕ
keyed_blocks b = all_keyed (block_areas b.cut b.bytes)

-- the same, if there are blocks
abbrev pub keyed_or_fault : Result FileBlocks ContentFault → Result (List ℕ) ContentFault
keyed_or_fault (Ok b) = Ok (keyed_blocks b)
keyed_or_fault (Err f) = Err f

-- The file of a member, as that of a data set whose label says the same as the library's.
abbrev pub as_set : NewSetForm → AddedMember → LoadedSet
as_set form added = record { name = added.library; form = form; kept = new_label; source = added.source; bytes = added.bytes }

-- the blocks of a member's file in a library of this form, or why it has none
abbrev pub member_blocks : DriveModel → NewSetForm → AddedMember → Result (List ℕ) ContentFault
member_blocks model form added = keyed_or_fault (blocks_in model (as_set form added) (layout_of_set form))
