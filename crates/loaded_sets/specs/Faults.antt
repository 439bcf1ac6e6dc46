-- What faults say of a volume that gets nothing.
use Rattle.changed_volumes.specs.declared.fault.ChangeFault.{ChangeFault}
use Rattle.changed_volumes.specs.declared.fault.ChangeFault.TheVariants as fault
use Rattle.dasd_jobs.specs.declared.faults.JobFault.TheVariants as job
use Rattle.dasd_jobs.specs.declared.files.FileFault.{FileFault}
use Rattle.dasd_jobs.specs.declared.files.FileFault.TheVariants as file
use Rattle.loaded_sets.specs.declared.place_fault.PlaceFault.{PlaceFault}
use Rattle.loaded_sets.specs.declared.place_fault.PlaceFault.TheVariants as place
use Rattle.loaded_sets.specs.declared.fault.LoadRefusal.{LoadRefusal}
use Rattle.loaded_sets.specs.declared.fault.LoadRefusal.TheVariants as refusal

-- why a data set was not put onto a volume
abbrev pub LoadFault : Type 0
LoadFault = ChangeFault LoadRefusal

-- what the fault of a volume that gets no records is
abbrev pub placing_fault : PlaceFault → LoadFault
placing_fault (place.Refused r) = fault.Refused (refusal.Placed r)
placing_fault (place.Job f) = fault.Job f

-- what a fault of the file with the blocks is
abbrev pub file_fault : {R : Type 0} → FileFault → ChangeFault R
file_fault file.OutOfMemory = fault.Job job.OutOfMemory
file_fault f = fault.Job job.Read
