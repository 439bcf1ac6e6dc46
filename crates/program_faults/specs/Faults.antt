-- The faults of the program: which come before any file is replaced, and the status that each ends with.
use Rattle.std.specs.Prelude.{ℕ, Bool, true, false}
use Rattle.s360_deck.specs.declared.runs.RunFault.{RunFault}
use Rattle.s360_deck.specs.declared.runs.RunFault.TheVariants as run
use Rattle.dasd_jobs.specs.declared.faults.JobFault.{JobFault}
use Rattle.dasd_jobs.specs.declared.faults.JobFault.TheVariants as job
use Rattle.dasd_jobs.specs.declared.files.FileFault.{FileFault}
use Rattle.dasd_jobs.specs.declared.files.FileFault.TheVariants as file
use Rattle.dasd_volumes.specs.declared.fault.VolumeFault.{VolumeFault}
use Rattle.dasd_volumes.specs.declared.fault.VolumeFault.TheVariants as volume
use Rattle.dasd_unload.specs.declared.fault.UnloadFault.{UnloadFault}
use Rattle.dasd_unload.specs.declared.fault.UnloadFault.TheVariants as unload
use Rattle.changed_volumes.specs.declared.formats.FormatFault.{FormatFault}
use Rattle.changed_volumes.specs.declared.formats.FormatFault.TheVariants as format
use Rattle.changed_volumes.specs.declared.fault.ChangeFault.{ChangeFault}
use Rattle.changed_volumes.specs.declared.fault.ChangeFault.TheVariants as change
use Rattle.loaded_sets.specs.Faults.{LoadFault}
use Rattle.loaded_folders.specs.Faults.{FolderFault, NewMemberFault}
use Rattle.member_changes.specs.declared.refusal.MemberRefusal.{MemberRefusal}
use Rattle.volume_changes.specs.declared.refusal.ChangeRefusal.{ChangeRefusal}
use Rattle.volume_details.specs.declared.fault.MemberListFault.{MemberListFault}
use Rattle.volume_details.specs.declared.fault.MemberListFault.TheVariants as library
use Rattle.program_faults.specs.declared.fault.ProgramFault.{ProgramFault}
use Rattle.program_faults.specs.declared.fault.ProgramFault.TheVariants as fault

-- a deck was not run
abbrev pub is_not_run : RunFault → Bool
is_not_run (run.Deck _) = true
is_not_run run.Read = true
is_not_run run.Write = false

-- there is nothing of the kind that was to be unloaded; with a fault of the files some may be there
abbrev pub keeps_unloaded : UnloadFault → Bool
keeps_unloaded unload.NoDataSet = true
keeps_unloaded unload.NoMember = true
keeps_unloaded unload.NoMemberNamed = true
keeps_unloaded (unload.Attributes _) = true
keeps_unloaded (unload.NotWhole _) = false
keeps_unloaded (unload.Job _) = false

-- Of the faults of a job over files only that of a write may come behind a file that was put in its place: the line that says so is
-- then not printed.
abbrev pub keeps_of_job : JobFault → Bool
keeps_of_job job.Write = false
keeps_of_job f = true

-- Words are wrong, there is nothing of the kind, a file can't be opened, read, locked or mounted, there is no memory, a channel is not
-- made, or its deck is not run; or a text is not assembled, or a deck not put into words.
abbrev pub keeps_files : ProgramFault → Bool
keeps_files (fault.Words _) = true
keeps_files (fault.Help _) = true
keeps_files fault.BadVolume = true
keeps_files fault.StorageSize = true
keeps_files fault.ChannelNumber = true
keeps_files fault.AddressTaken = true
keeps_files fault.TooManyDrives = true
keeps_files fault.NoTrack = true
keeps_files fault.NoRecord = true
keeps_files fault.NotPartitioned = true
keeps_files (fault.Table _) = true
keeps_files (fault.Change _) = true
keeps_files (fault.Load _) = true
keeps_files (fault.Folder _) = true
keeps_files (fault.Member _) = true
keeps_files (fault.Entry _) = true
keeps_files fault.TraceNotOpened = true
keeps_files fault.TraceInUse = true
keeps_files (fault.Run f) = is_not_run f
keeps_files fault.OutOfMemory = true
keeps_files (fault.Job f) = keeps_of_job f
keeps_files (fault.Save _) = false
keeps_files fault.TraceWrite = false
keeps_files (fault.Unload f) = keeps_unloaded f
keeps_files (fault.Assembly source f) = true
keeps_files (fault.Disassembly source f) = true

-- 2 for words that are wrong or ask for help, 1 for every other fault
abbrev pub status_of : ProgramFault → ℕ
status_of (fault.Words _) = 2
status_of (fault.Help _) = 2
status_of fault.BadVolume = 2
status_of fault.OutOfMemory = 1
status_of fault.StorageSize = 1
status_of fault.ChannelNumber = 1
status_of fault.AddressTaken = 1
status_of fault.TooManyDrives = 1
status_of fault.NoTrack = 1
status_of fault.NoRecord = 1
status_of fault.NotPartitioned = 1
status_of (fault.Table _) = 1
status_of (fault.Change _) = 1
status_of (fault.Load _) = 1
status_of (fault.Folder _) = 1
status_of (fault.Member _) = 1
status_of (fault.Entry _) = 1
status_of fault.TraceNotOpened = 1
status_of fault.TraceInUse = 1
status_of fault.TraceWrite = 1
status_of (fault.Unload _) = 1
status_of (fault.Job _) = 1
status_of (fault.Save _) = 1
status_of (fault.Run _) = 1
status_of (fault.Assembly source f) = 1
status_of (fault.Disassembly source f) = 1

-- what a fault of the file of a trace is to the program
abbrev pub opening_fault : FileFault → ProgramFault
opening_fault file.OutOfMemory = fault.OutOfMemory
opening_fault file.Refused = fault.TraceNotOpened
opening_fault file.InUse = fault.TraceInUse
opening_fault file.Twice = fault.TraceInUse
opening_fault file.Exists = fault.TraceInUse

-- what the fault of a volume that is not opened is to the program, by whether its address is taken
abbrev pub volume_fault : JobFault → (is_taken : Bool) → ProgramFault
volume_fault job.InUse true = fault.AddressTaken
volume_fault f is_taken = fault.Job f

-- what the fault of a volume that is printed is to the program: a slot that can't be read is a file that can't be
abbrev pub printing_fault : VolumeFault → ProgramFault
printing_fault volume.OutOfMemory = fault.Job job.OutOfMemory
printing_fault volume.Store = fault.Job job.Read
printing_fault volume.Write = fault.Job job.Write

-- what is to the program the fault of a format with a label
abbrev pub format_fault : FormatFault → ProgramFault
format_fault (format.Table f) = fault.Table f
format_fault (format.Job f) = fault.Job f

-- that of a volume that is changed
abbrev pub change_fault : ChangeFault ChangeRefusal → ProgramFault
change_fault (change.Refused refusal) = fault.Change refusal
change_fault (change.Job f) = fault.Job f
change_fault (change.Save f) = fault.Save f

-- that of a data set that is put onto a volume
abbrev pub load_fault : LoadFault → ProgramFault
load_fault (change.Refused refusal) = fault.Load refusal
load_fault (change.Job f) = fault.Job f
load_fault (change.Save f) = fault.Save f

-- that of a folder whose files are
abbrev pub folder_fault : FolderFault → ProgramFault
folder_fault (change.Refused refusal) = fault.Folder refusal
folder_fault (change.Job f) = fault.Job f
folder_fault (change.Save f) = fault.Save f

-- that of a member that is put into a library
abbrev pub add_fault : NewMemberFault → ProgramFault
add_fault (change.Refused refusal) = fault.Member refusal
add_fault (change.Job f) = fault.Job f
add_fault (change.Save f) = fault.Save f

-- that of a member of a library that is changed
abbrev pub member_fault : ChangeFault MemberRefusal → ProgramFault
member_fault (change.Refused refusal) = fault.Entry refusal
member_fault (change.Job f) = fault.Job f
member_fault (change.Save f) = fault.Save f

-- that of a library whose members are listed
abbrev pub library_fault : MemberListFault → ProgramFault
library_fault library.NoDataSet = fault.Unload unload.NoDataSet
library_fault library.NotPartitioned = fault.NotPartitioned
library_fault library.OutOfMemory = fault.Job job.OutOfMemory
library_fault library.Read = fault.Job job.Read
library_fault library.Write = fault.Job job.Write
