-- What the files of a library's members have, or why they have none.
use Rattle.std.specs.Prelude.{ℕ, ◌+◌, List, [], ◌∷◌, map, Option, Some, None, Result, Ok, Err}
use Rattle.std.specs.List.{position}
use Rattle.ckd_track.specs.declared.model.DriveModel.{DriveModel}
use Rattle.ckd_track.specs.declared.geometries.Geometry.{Geometry}
use Rattle.record_tracks.specs.declared.blocks.Cut.{Cut}
use Rattle.record_tracks.specs.declared.blocks.Cut.TheVariants as cut
use Rattle.record_tracks.specs.declared.block_faults.BlockFault.{BlockFault}
use Rattle.record_tracks.specs.Blocks.{cut_by}
use Rattle.record_tracks.specs.BlockFaults.{block_fault_of}
use Rattle.volume_labels.specs.declared.layouts.AttributeFault.{AttributeFault}
use Rattle.volume_labels.specs.declared.layouts.Layout.{Layout}
use Rattle.volume_contents.specs.declared.blocks.Block.{Block}
use Rattle.volume_contents.specs.Contents.{Said}
use Rattle.volume_contents.specs.Sets.{has_name}
use Rattle.loaded_sets.specs.declared.place_fault.PlaceRefusal.{PlaceRefusal}
use Rattle.loaded_sets.specs.Volumes.{unfit_of}
use Rattle.loaded_sets.specs.declared.contents.SourceForm.{SourceForm}
use Rattle.loaded_sets.specs.declared.contents.SourceForm.TheVariants as source
use Rattle.loaded_sets.specs.declared.fault.ContentFault.{ContentFault}
use Rattle.loaded_sets.specs.declared.fault.ContentFault.TheVariants as content
use Rattle.loaded_sets.specs.declared.fault.LoadRefusal.{LoadRefusal}
use Rattle.loaded_sets.specs.declared.fault.LoadRefusal.TheVariants as refusal
use Rattle.loaded_sets.specs.Contents.{layout_of_set, text_bytes}
use Rattle.loaded_sets.specs.declared.libraries.LoadedLibrary.{LoadedLibrary}

-- The blocks of a library's members: how records lie in them, how their bytes are told apart, and the bytes of each member.
pub record MemberBlocks : Type 0 where
  pub layout : Layout
  pub cut : Cut
  pub members : List (List ℕ)

-- the bytes of one member before those of the others
abbrev pub put_first : List ℕ → Result (List (List ℕ)) LoadRefusal → Result (List (List ℕ)) LoadRefusal
put_first bytes (Ok others) = Ok (bytes ∷ others)
put_first bytes (Err r) = Err r

-- what is made of the file of the member of this number, and then of the others; or why nothing is made of it
abbrev pub and_others : (number : ℕ) → Result (List ℕ) ContentFault → Result (List (List ℕ)) LoadRefusal
    → Result (List (List ℕ)) LoadRefusal
and_others number (Ok bytes) others = put_first bytes others
and_others number (Err f) others = Err (refusal.Member number f)

-- What is made of the file of each member, from the one of this number on; the first of which nothing is made is told.
unfoldable pub each_made : (make : List ℕ → Result (List ℕ) ContentFault) → (number : ℕ) → (files : List (List ℕ))
    → Result (List (List ℕ)) LoadRefusal
each_made make number [] = Ok []
each_made make number (file ∷ others) = and_others number (make file) (each_made make (number + 1) others)

-- the bytes of the members' blocks: their files as they are, or the records of their texts
abbrev pub members_by : SourceForm → Layout → (files : List (List ℕ)) → Result (List (List ℕ)) LoadRefusal
members_by source.Blocks l files = Ok files
members_by source.WithLengths l files = Ok files
members_by source.Text l files = each_made (text_bytes l) 1 files

-- how their blocks are told apart
abbrev pub cut_in : SourceForm → Layout → Cut
cut_in source.Blocks l = cut_by l.form l.longest
cut_in source.WithLengths l = cut.WithLengths
cut_in source.Text l = cut_by l.form l.longest

-- the bytes of a member, whose blocks have no fault
abbrev pub unless_faulty : (bytes : List ℕ) → Option BlockFault → Result (List ℕ) ContentFault
unless_faulty bytes None = Ok bytes
unless_faulty bytes (Some f) = Err (content.Blocks f)

-- the same on a drive of this model
abbrev pub fitting : DriveModel → Layout → (key_length : ℕ) → Cut → (bytes : List ℕ) → Result (List ℕ) ContentFault
fitting model l key_length c bytes = unless_faulty bytes (block_fault_of model l key_length c bytes)

-- the bytes of all members
abbrev pub fitting_members : DriveModel → (key_length : ℕ) → MemberBlocks → Result (List (List ℕ)) LoadRefusal
fitting_members model key_length b = each_made (fitting model b.layout key_length b.cut) 1 b.members

-- blocks, each member of which fits
abbrev pub unless_unfit : MemberBlocks → Result (List (List ℕ)) LoadRefusal → Result MemberBlocks LoadRefusal
unless_unfit b (Ok members) = Ok b
unless_unfit b (Err r) = Err r

-- what was made of the files as the blocks of members
abbrev pub blocks_with : DriveModel → LoadedLibrary → Layout → Result (List (List ℕ)) LoadRefusal → Result MemberBlocks LoadRefusal
blocks_with model library l (Ok members) =
    let b : MemberBlocks = record { layout = l; cut = cut_in library.source l; members = members } in
    unless_unfit b (fitting_members model library.form.key_length b)
blocks_with model library l (Err r) = Err r

-- the blocks of the members of a library with this layout
abbrev pub blocks_in : DriveModel → LoadedLibrary → Result Layout AttributeFault → Result MemberBlocks LoadRefusal
blocks_in model library (Ok l) = blocks_with model library l (members_by library.source l (map (λ m. m.now) library.members.now))
blocks_in model library (Err f) = Err (refusal.Content (content.Attributes f))

-- The same on a volume that says this; or why the volume does not get the library: it gets none at all, a data set of it has the name, the
-- attributes are none, a text is none, or the bytes of a member are no blocks. The first of these is told.
abbrev pub blocks_unless_taken : DriveModel → LoadedLibrary → (same_name : Option ℕ) → Result MemberBlocks LoadRefusal
blocks_unless_taken model library None = blocks_in model library (layout_of_set library.form)
blocks_unless_taken model library (Some i) = Err refusal.NameTaken

-- the volume gets none for this reason, or it may get this one
abbrev pub blocks_unless_barred : DriveModel → LoadedLibrary → List Block → Option PlaceRefusal → Result MemberBlocks LoadRefusal
blocks_unless_barred model library blocks None = blocks_unless_taken model library (position (has_name library.name) blocks)
blocks_unless_barred model library blocks (Some r) = Err (refusal.Placed r)

-- the blocks of a library's members on a volume that says this
abbrev pub blocks_on : Geometry → LoadedLibrary → Said → Result MemberBlocks LoadRefusal
blocks_on g library s = blocks_unless_barred g.model library s.blocks (unfit_of g s)
