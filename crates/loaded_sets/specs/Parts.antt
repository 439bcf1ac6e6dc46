-- How the code holds what the contracts speak of; no public contract names these.
use Rattle.std.specs.Prelude.{◌≡◌, ◌⊎◌, ℕ, List, Result, Ok, Err}
use Rattle.std.specs.List.{position}
use Rattle.dasd_jobs.specs.declared.faults.JobFault.TheVariants as job
use Rattle.volume_contents.specs.Sets.{has_name}
use Rattle.changed_volumes.specs.Changes.{IsHinderedBy}
use Rattle.loaded_sets.specs.declared.plans.PlacedSet.{PlacedSet}
use Rattle.loaded_sets.specs.Volumes.{Labelled}
use Rattle.loaded_sets.specs.declared.contents.LoadedSet.{LoadedSet}
use Rattle.loaded_sets.specs.Faults.{LoadFault}
use Rattle.changed_volumes.specs.declared.fault.ChangeFault.TheVariants as fault
use Rattle.loaded_sets.specs.declared.fault.LoadRefusal.{LoadRefusal}
use Rattle.loaded_sets.specs.declared.fault.LoadRefusal.TheVariants as refusal
use Rattle.loaded_sets.specs.declared.fault.Unmade.{Unmade}
use Rattle.loaded_sets.specs.declared.fault.Unmade.TheVariants as unmade
use Rattle.loaded_sets.specs.declared.images.FileBlocks as declared
use Rattle.loaded_sets.specs.Contents.{FileBlocks, blocks_fitting, blocks_unless_taken}
use Rattle.loaded_sets.specs.Placed.{HasNoPlace}
use Rattle.loaded_sets.specs.Loaded.{IsSetOf, GetsBlocks, HasNone}

-- the blocks that the code has
abbrev pub file_blocks : declared.FileBlocks → FileBlocks
file_blocks f = record { layout = f.layout; cut = f.blocks.cut; bytes = f.blocks.bytes.now }

-- the blocks of a data set on a volume that can get one
abbrev pub blocks_for : Labelled → LoadedSet → Result FileBlocks LoadRefusal
blocks_for v set = blocks_unless_taken v.geometry.model set (position (has_name set.name) v.blocks)

-- such a volume gets the data set
abbrev pub IsPut : Labelled → LoadedSet → (before : List (List ℕ)) → (tracks : ℕ) → (now : List (List ℕ)) → Type 0
IsPut v set before tracks now = (b : FileBlocks) × (blocks_for v set ≡ Ok b) × GetsBlocks v set b before tracks now

-- it gets none for this reason
abbrev pub IsNotPut : LoadFault → Labelled → LoadedSet → (slots : List (List ℕ)) → Type 0
IsNotPut (fault.Refused r) v set slots =
    (blocks_for v set ≡ Err r)
    ⊎ ((b : FileBlocks) × (p : PlacedSet) × (blocks_for v set ≡ Ok b) × IsSetOf set b p × HasNone r v p slots)
IsNotPut f v set slots = IsHinderedBy f

-- it gets the data set with these blocks, which fit
abbrev pub IsSet : Labelled → LoadedSet → FileBlocks → (before : List (List ℕ)) → (tracks : ℕ) → (now : List (List ℕ)) → Type 0
IsSet v set b before tracks now =
    (blocks_fitting v.geometry.model set.form.key_length b ≡ Ok b) × GetsBlocks v set b before tracks now

-- it does not get it with these blocks: they have this fault, or the volume has no place for it
abbrev pub IsNotSet : LoadFault → Labelled → LoadedSet → FileBlocks → (slots : List (List ℕ)) → Type 0
IsNotSet (fault.Refused (refusal.Content f)) v set b slots = blocks_fitting v.geometry.model set.form.key_length b ≡ Err f
IsNotSet (fault.Refused (refusal.Placed r)) v set b slots =
    (p : PlacedSet) × (blocks_fitting v.geometry.model set.form.key_length b ≡ Ok b) × IsSetOf set b p × HasNoPlace r v p slots
IsNotSet f v set b slots = IsHinderedBy f

-- what a file that is not made into blocks is for its data set
abbrev pub unmade_fault : Unmade → LoadFault
unmade_fault (unmade.Content f) = fault.Refused (refusal.Content f)
unmade_fault unmade.OutOfMemory = fault.Job job.OutOfMemory
