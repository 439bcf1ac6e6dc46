-- How the code holds what the contracts speak of; no public contract names these.
use Rattle.std.specs.Prelude.{◌≡◌, ◌⊎◌, ℕ, ◌<◌, List, map, Result, Ok, Err, All}
use Rattle.std.specs.List.{position}
use Rattle.ckd_track.specs.declared.model.DriveModel.{DriveModel}
use Rattle.record_tracks.specs.declared.blocks.Cut.{Cut}
use Rattle.record_tracks.specs.Blocks.{AreBlocks}
use Rattle.dasd_jobs.specs.declared.faults.JobFault.TheVariants as job
use Rattle.record_tracks.specs.declared.library_faults.LibraryFault.{LibraryFault}
use Rattle.record_tracks.specs.declared.library_faults.LibraryFault.TheVariants as library
use Rattle.record_tracks.specs.declared.libraries.NewLibrary.{NewLibrary}
use Rattle.volume_contents.specs.Sets.{has_name}
use Rattle.loaded_sets.specs.Volumes.{Labelled}
use Rattle.loaded_sets.specs.declared.fault.ContentFault.{ContentFault}
use Rattle.loaded_sets.specs.Faults.{LoadFault}
use Rattle.changed_volumes.specs.declared.fault.ChangeFault.TheVariants as fault
use Rattle.loaded_sets.specs.declared.fault.LoadRefusal.{LoadRefusal}
use Rattle.loaded_sets.specs.declared.fault.LoadRefusal.TheVariants as refusal
use Rattle.loaded_sets.specs.declared.fault.Unmade.{Unmade}
use Rattle.loaded_sets.specs.declared.fault.Unmade.TheVariants as unmade
use Rattle.loaded_sets.specs.Contents.{label_of}
use Rattle.changed_volumes.specs.Changes.{IsHinderedBy}
use Rattle.loaded_sets.specs.declared.libraries.LoadedLibrary.{LoadedLibrary}
use Rattle.loaded_sets.specs.declared.libraries.MemberBlocks as declared
use Rattle.loaded_sets.specs.declared.libraries.NamedLibrary.{NamedLibrary}
use Rattle.loaded_sets.specs.Members.{MemberBlocks, blocks_unless_taken, fitting_members}
use Rattle.loaded_sets.specs.LoadedLibraries.{IsLibraryOf, GetsRecords, GetsLibrary, HasNone}

-- the blocks that the code has
abbrev pub member_blocks : declared.MemberBlocks → MemberBlocks
member_blocks b = record { layout = b.layout; cut = b.cut; members = map (λ m. m.now) b.members.now }

-- the bytes of a member are bytes, and its blocks are some
pub record HasBlocks (model : DriveModel) (cut : Cut) (bytes : List ℕ) : Type 0 where
  pub blocks : AreBlocks model cut bytes
  pub below : All (λ byte. byte < 256) bytes

-- what the file of a member that is not made into blocks is for its library
abbrev pub member_fault : (number : ℕ) → Unmade → LoadFault
member_fault number (unmade.Content f) = fault.Refused (refusal.Member number f)
member_fault number unmade.OutOfMemory = fault.Job job.OutOfMemory

-- what the fault of a library without a directory is
abbrev pub library_failure : LibraryFault → LoadFault
library_failure library.OutOfMemory = fault.Job job.OutOfMemory
library_failure f = fault.Refused (refusal.Library f)

-- this is why nothing is made of a member's file, or there is no memory
abbrev pub IsNoneFor : Unmade → Result (List ℕ) ContentFault → Type 0
IsNoneFor (unmade.Content f) made = made ≡ Err f
IsNoneFor unmade.OutOfMemory made = Unit {0}

-- this is why nothing is made of the members' files, or something hinders it
abbrev pub IsUnmade : LoadFault → Result (List (List ℕ)) LoadRefusal → Type 0
IsUnmade (fault.Refused r) made = made ≡ Err r
IsUnmade f made = IsHinderedBy f

-- such a volume gets the library with its records
abbrev pub IsNamed : Labelled → NamedLibrary → (before : List (List ℕ)) → (tracks : ℕ) → (now : List (List ℕ)) → Type 0
IsNamed v n before tracks now = GetsRecords v n.name n.label n.library before tracks now

-- it does not get it, for this reason
abbrev pub IsNotNamed : LoadFault → Labelled → NamedLibrary → (slots : List (List ℕ)) → Type 0
IsNotNamed (fault.Refused r) v n slots = HasNone r v n.name n.label n.library slots
IsNotNamed f v n slots = IsHinderedBy f

-- it gets the library whose members have these blocks, which fit
abbrev pub IsSet : Labelled → LoadedLibrary → MemberBlocks → (before : List (List ℕ)) → (tracks : ℕ) → (now : List (List ℕ)) → Type 0
IsSet v library b before tracks now =
    (fitting_members v.geometry.model library.form.key_length b ≡ Ok b.members) × GetsLibrary v library b before tracks now

-- it does not get the library with these blocks: those of a member have a fault, or it has no directory or no place
abbrev pub IsNotSet : LoadFault → Labelled → LoadedLibrary → MemberBlocks → (slots : List (List ℕ)) → Type 0
IsNotSet (fault.Refused r) v library b slots =
    (fitting_members v.geometry.model library.form.key_length b ≡ Err r)
    ⊎ ((l : NewLibrary) × (fitting_members v.geometry.model library.form.key_length b ≡ Ok b.members) × IsLibraryOf library b l
    × HasNone r v library.name (label_of library.form library.kept b.layout) l slots)
IsNotSet f v library b slots = IsHinderedBy f

-- the blocks of a library's members on a volume that can get one
abbrev pub blocks_for : Labelled → LoadedLibrary → Result MemberBlocks LoadRefusal
blocks_for v library = blocks_unless_taken v.geometry.model library (position (has_name library.name) v.blocks)

-- such a volume gets the library
abbrev pub IsPut : Labelled → LoadedLibrary → (before : List (List ℕ)) → (tracks : ℕ) → (now : List (List ℕ)) → Type 0
IsPut v library before tracks now = (b : MemberBlocks) × (blocks_for v library ≡ Ok b) × GetsLibrary v library b before tracks now

-- it does not get it, for this reason
abbrev pub IsNotPut : LoadFault → Labelled → LoadedLibrary → (slots : List (List ℕ)) → Type 0
IsNotPut (fault.Refused r) v library slots =
    (blocks_for v library ≡ Err r)
    ⊎ ((b : MemberBlocks) × (l : NewLibrary) × (blocks_for v library ≡ Ok b) × IsLibraryOf library b l
    × HasNone r v library.name (label_of library.form library.kept b.layout) l slots)
IsNotPut f v library slots = IsHinderedBy f
