-- What the faults of a folder and of a member are, and what those of the parts of a load are for the member.
use Rattle.dasd_jobs.specs.declared.faults.JobFault.TheVariants as job
use Rattle.changed_volumes.specs.declared.fault.ChangeFault.{ChangeFault}
use Rattle.changed_volumes.specs.declared.fault.ChangeFault.TheVariants as fault
use Rattle.changed_volumes.specs.Changes.{reading_fault as volume_fault}
use Rattle.volume_changes.specs.declared.refusal.ChangeRefusal.{ChangeRefusal}
use Rattle.loaded_sets.specs.declared.place_fault.PlaceFault.{PlaceFault}
use Rattle.loaded_sets.specs.declared.place_fault.PlaceFault.TheVariants as place
use Rattle.library_contents.specs.declared.contents.LibraryReadFault.{LibraryReadFault}
use Rattle.library_contents.specs.declared.contents.LibraryReadFault.TheVariants as read
use Rattle.loaded_sets.specs.Faults.{LoadFault}
use Rattle.loaded_sets.specs.declared.fault.Unmade.{Unmade}
use Rattle.loaded_sets.specs.declared.fault.Unmade.TheVariants as unmade
use Rattle.loaded_folders.specs.declared.fault.FolderRefusal.{FolderRefusal}
use Rattle.loaded_folders.specs.declared.member_fault.NewMemberRefusal.{NewMemberRefusal}
use Rattle.loaded_folders.specs.declared.member_fault.NewMemberRefusal.TheVariants as refusal

-- why the data sets of a folder were not put onto a volume
abbrev pub FolderFault : Type 0
FolderFault = ChangeFault FolderRefusal

-- why a member was not put into a library
abbrev pub NewMemberFault : Type 0
NewMemberFault = ChangeFault NewMemberRefusal

-- what the fault of a volume that gets no data set is
abbrev pub placing_fault : PlaceFault → NewMemberFault
placing_fault (place.Refused r) = fault.Refused (refusal.Volume r)
placing_fault (place.Job f) = fault.Job f

-- what the fault of a library that is not read is
abbrev pub reading_fault : LibraryReadFault → NewMemberFault
reading_fault (read.Volume f) = volume_fault f
reading_fault read.Directory = fault.Refused (refusal.Read read.Directory)
reading_fault (read.Member n) = fault.Refused (refusal.Read (read.Member n))
reading_fault (read.ShortUserData n) = fault.Refused (refusal.Read (read.ShortUserData n))
reading_fault (read.NoBlock n) = fault.Refused (refusal.Read (read.NoBlock n))

-- what a file that is not made into blocks is
abbrev pub unmade_fault : Unmade → NewMemberFault
unmade_fault (unmade.Content f) = fault.Refused (refusal.Content f)
unmade_fault unmade.OutOfMemory = fault.Job job.OutOfMemory

-- what the fault of a data set that is not deleted is
abbrev pub deletion_fault : ChangeFault ChangeRefusal → NewMemberFault
deletion_fault (fault.Refused r) = fault.Refused (refusal.Deletion r)
deletion_fault (fault.Job f) = fault.Job f
deletion_fault (fault.Save f) = fault.Save f

-- what the fault of a library that is not put onto a volume is
abbrev pub loading_fault : LoadFault → NewMemberFault
loading_fault (fault.Refused r) = fault.Refused (refusal.Load r)
loading_fault (fault.Job f) = fault.Job f
loading_fault (fault.Save f) = fault.Save f
