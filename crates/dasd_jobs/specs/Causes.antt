-- Which fault of a job comes of which fault of a file or a volume.
use Rattle.std.specs.Prelude.{◌≡◌}
use Rattle.ckd_image.specs.declared.fault.MountFault.{MountFault}
use Rattle.ckd_image.specs.declared.fault.MountFault.TheVariants as mount
use Rattle.dasd_volumes.specs.declared.fault.VolumeFault.{VolumeFault}
use Rattle.dasd_volumes.specs.declared.fault.VolumeFault.TheVariants as volume
use Rattle.dasd_jobs.specs.declared.files.FileFault.{FileFault}
use Rattle.dasd_jobs.specs.declared.files.FileFault.TheVariants as file
use Rattle.dasd_jobs.specs.declared.faults.JobFault.{JobFault}
use Rattle.dasd_jobs.specs.declared.faults.JobFault.TheVariants as job

-- of a file that is opened or read
abbrev pub reading_fault : FileFault → JobFault
reading_fault file.OutOfMemory = job.OutOfMemory
reading_fault file.Refused = job.Read
reading_fault file.InUse = job.InUse
reading_fault file.Twice = job.InUse
reading_fault file.Exists = job.Exists

-- of a file that is made or replaced
abbrev pub writing_fault : FileFault → JobFault
writing_fault file.OutOfMemory = job.OutOfMemory
writing_fault file.Refused = job.Write
writing_fault file.InUse = job.InUse
writing_fault file.Twice = job.InUse
writing_fault file.Exists = job.Exists

-- of a volume whose files are read
abbrev pub volume_fault : VolumeFault → JobFault
volume_fault volume.OutOfMemory = job.OutOfMemory
volume_fault volume.Store = job.Read
volume_fault volume.Write = job.Write

-- of files that are mounted: where a header can't be read, its file can't be
abbrev pub mounting_fault : MountFault → JobFault
mounting_fault mount.StoreFault = job.Read
mounting_fault broken = job.Mount broken

-- a fault is one of a file that is made or replaced
abbrev pub IsOfWriting : JobFault → Type 0
IsOfWriting e = (f : FileFault) × (e ≡ writing_fault f)
