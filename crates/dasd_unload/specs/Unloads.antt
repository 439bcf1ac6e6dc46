-- What is unloaded from a volume, and where it goes.
use Rattle.std.specs.Prelude.{◌≡◌, ◌≢◌, ◌⊎◌, ℕ, Bool, true, false, List, [], ◌++◌, length, codes, Option, Some, None, Result, Ok, Err}
use Rattle.std.specs.List.{All}
use Rattle.volume_labels.specs.Names.{safe_name_of}
use Rattle.counted_io.specs.Streams.{Stream, NoneFailed, OneFailed}
use Rattle.dasd_volumes.specs.declared.fault.VolumeFault.{VolumeFault}
use Rattle.dasd_volumes.specs.declared.fault.VolumeFault.TheVariants as volume
use Rattle.dasd_volumes.specs.Reading.{KnownVolume}
use Rattle.dasd_extract.specs.Walk.{Wanted, Extracts}
use Rattle.dasd_jobs.specs.declared.faults.JobFault.TheVariants as job
use Rattle.dasd_jobs.specs.Written.{Replaced, with_file}
use Rattle.dasd_unload.specs.declared.fault.UnloadFault.{UnloadFault}
use Rattle.dasd_unload.specs.declared.fault.UnloadFault.TheVariants as fault
use Rattle.dasd_unload.specs.declared.sets.Unloaded.{Unloaded}

-- what a call leaves: the files that were made, and what was printed
pub record Outcome : Type 0 where
  pub written : List Replaced
  pub printed : Stream

abbrev pub outcome : List Replaced → Stream → Outcome
outcome written printed = record { written = written; printed = printed }

-- a slot that can't be read is a file that can't be
abbrev pub unload_fault : VolumeFault → UnloadFault
unload_fault volume.OutOfMemory = fault.Job job.OutOfMemory
unload_fault volume.Store = fault.Job job.Read
unload_fault volume.Write = fault.Job job.Write

-- of a call that writes nothing
abbrev pub reading_fault : VolumeFault → UnloadFault
reading_fault volume.Store = fault.Job job.Read
reading_fault other = fault.Job job.OutOfMemory

-- a write failed, or a flush, exactly where a write fault is answered
abbrev pub CountsPrinted : {A : Type 0} → Result A UnloadFault → (before after : Stream) → Type 0
CountsPrinted (Ok _) before after = NoneFailed before after
CountsPrinted (Err f) before after = ((f ≢ fault.Job job.Write) × NoneFailed before after) ⊎ ((f ≡ fault.Job job.Write) × OneFailed before after)

-- what is unloaded was put at its path before it is told that it is not whole; every other fault leaves no file
abbrev pub leaves_a_file : UnloadFault → Bool
leaves_a_file (fault.NotWhole _) = true
leaves_a_file fault.NoDataSet = false
leaves_a_file fault.NoMember = false
leaves_a_file fault.NoMemberNamed = false
leaves_a_file (fault.Attributes _) = false
leaves_a_file (fault.Job _) = false

-- a fault of the files or of the volume
abbrev pub is_of_job : UnloadFault → Bool
is_of_job (fault.Job _) = true
is_of_job (fault.NotWhole _) = false
is_of_job fault.NoDataSet = false
is_of_job fault.NoMember = false
is_of_job fault.NoMemberNamed = false
is_of_job (fault.Attributes _) = false

-- the blocks of a source were put into a file at a path, and are so many bytes
pub record Unloads (path : List ℕ) (s : Wanted) (v : KnownVolume) (before now : List Replaced) (u : Unloaded) : Type 0 where
  pub bytes : List ℕ
  pub put : now ≡ with_file before path bytes
  pub blocks : Extracts s v (Some []) (Some bytes) u.stop
  pub count : u.bytes ≡ length bytes

-- they were, or nothing was
abbrev pub UnloadsTo : Result Unloaded UnloadFault → (path : List ℕ) → Wanted → KnownVolume → (before now : List Replaced) → Type 0
UnloadsTo (Ok u) path s v before now = Unloads path s v before now u
UnloadsTo (Err _) path s v before now = now ≡ before

-- the name of the file for a data set, or for a member of one: SYS1.MACLIB(OPEN)
abbrev pub file_name : (data_set : List ℕ) → (member : Option (List ℕ)) → List ℕ
file_name data_set None = safe_name_of data_set
file_name data_set (Some member) = safe_name_of data_set ++ codes "(" ++ safe_name_of member ++ codes ")"

-- a name is one of these
pub record IsFileName (name : List ℕ) : Type 0 where
  pub data_set : List ℕ
  pub member : Option (List ℕ)
  pub made : name ≡ file_name data_set member

-- the name of the file of the text that describes all; it has small letters, which no name of a data set has
abbrev pub text_name : List ℕ
text_name = codes "data_sets.txt"

-- a file stands in a folder, under the name of a data set or of a member, or of the text
pub record StandsIn (folder : List ℕ) (f : Replaced) : Type 0 where
  pub name : List ℕ
  pub is_name : IsFileName name ⊎ (name ≡ text_name)
  pub path : f.path ≡ folder ++ codes "/" ++ name

-- files came to these, and each stands in the folder
pub record AddsIn (folder : List ℕ) (before now : List Replaced) : Type 0 where
  pub more : List Replaced
  pub added : now ≡ before ++ more
  pub stand : All (StandsIn folder) more
